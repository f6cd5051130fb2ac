pub mod Hex
pub mod Split
pub mod Cases
pub mod HexBegun
mod Digits
