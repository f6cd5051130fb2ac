pub mod Rising
pub mod Judged
pub mod Loop
pub mod Laws
pub mod Refusals
pub mod ValueLaws
pub mod Output
