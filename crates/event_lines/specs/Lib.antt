pub mod Events
pub mod Steps
pub mod Split
pub mod Begun
pub mod Ends
