pub mod Sizes
pub mod Network
pub mod Letters
pub mod Values
