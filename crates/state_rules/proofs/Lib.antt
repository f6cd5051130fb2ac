pub mod PlaceLaws
pub mod WordTests
pub mod Gathered
pub mod Counted
pub mod Parts
pub mod LetterTests
