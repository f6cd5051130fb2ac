pub mod Holding
pub mod Acts
pub mod Done
pub mod Events
pub mod Numbers
pub mod Values
