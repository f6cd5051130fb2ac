pub mod Forms
pub mod Against
pub mod Laws
pub mod Refusals
pub mod Output
