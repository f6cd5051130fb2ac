pub mod Flood
pub mod Tallied
