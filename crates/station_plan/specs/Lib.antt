pub mod Carrying
pub mod Plans
pub mod Planned
pub mod Comes
