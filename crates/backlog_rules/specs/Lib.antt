pub mod Backlog
pub mod Answers
