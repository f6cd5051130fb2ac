pub mod OwnLinks
pub mod OnePass
