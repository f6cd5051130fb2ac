pub mod Desk
pub mod Answers
pub mod Parts
pub mod Pieces
pub mod Worlds
pub mod Program
pub mod Sayings
pub mod Stations
