pub mod Neighbours
pub mod Settling
pub mod Demand3
pub mod Cases
pub mod Tallies
pub mod Calls
pub mod Joined
