pub mod Bridge
pub mod Counts
