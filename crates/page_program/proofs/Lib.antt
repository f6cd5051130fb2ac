pub mod Given
pub mod Counting
pub mod First
