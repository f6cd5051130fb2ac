pub mod Digits
pub mod Puts
pub mod Chains
mod Spelled
pub mod Parts
pub mod Lines
