pub mod Wire
pub mod Passing
pub mod Calls
pub mod Line
pub mod LetterLineLine
