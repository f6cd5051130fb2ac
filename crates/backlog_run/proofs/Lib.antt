pub mod Turns
pub mod Course
pub mod Posting
pub mod Running
pub mod Lasting
