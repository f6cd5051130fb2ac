pub mod Hex
pub mod HexSteps
pub mod HexBegun
