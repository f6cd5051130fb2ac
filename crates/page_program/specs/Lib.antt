pub mod Page
pub mod Words
pub mod Counting
