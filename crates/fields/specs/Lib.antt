pub mod Fields
pub mod Output
