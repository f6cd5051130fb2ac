pub mod Passing
pub mod Program
pub mod Rooms
mod Written
mod LetterLineWritten
