pub mod Sums
pub mod Plain
