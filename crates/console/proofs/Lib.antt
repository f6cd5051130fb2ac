pub mod Files
pub mod Puts
pub mod Feeding
pub mod Lines
pub mod Faults
pub mod Goods
pub mod Pieces
