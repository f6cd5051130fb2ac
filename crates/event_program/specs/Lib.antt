pub mod Events
pub mod Runs
pub mod Calls
pub mod Stations
