pub mod Given
pub mod Calls
pub mod SheetReasons
pub mod LetterReasons
pub mod StateReasons
pub mod Counted
pub mod Sample
