pub mod Answers
pub mod Asking
pub mod ReportsAnswers
pub mod Steps
