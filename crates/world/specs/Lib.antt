pub mod World
pub mod History
