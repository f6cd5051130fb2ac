pub mod Backlog
pub mod Runs
pub mod Calls
