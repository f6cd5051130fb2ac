pub mod Present
pub mod Helpers
pub mod Known
pub mod Made
pub mod Loops
pub mod Turned
