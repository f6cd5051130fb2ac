pub mod Flood
pub mod Bound
pub mod Merge
pub mod Relay
