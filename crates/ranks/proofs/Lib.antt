pub mod Settling
pub mod FloodDiesOut
pub mod Merging
pub mod Relaying
pub mod Line
