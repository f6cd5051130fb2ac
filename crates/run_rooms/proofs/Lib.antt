pub mod Loops
pub mod Parts
pub mod Moves
