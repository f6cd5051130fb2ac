pub mod Lines
pub mod Wholes
pub mod Whole
