pub mod Letters
pub mod Values
pub mod Steps
