pub mod Sheets
pub mod Outputs
pub mod Feeding
