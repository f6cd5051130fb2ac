pub mod Sheet
pub mod Values
pub mod Steps
