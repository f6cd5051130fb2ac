pub mod Rules
pub mod Ends
pub mod Neighbours
pub mod Tested
pub mod Good
pub mod Examples
