pub mod Events
pub mod Split
pub mod Cases
pub mod Unique
pub mod Begun
pub mod Ends
