pub mod ValueLaws
pub mod Bodies
