pub mod Places
pub mod Tested
pub mod StationRoom
pub mod Meaning
pub mod LaidOut
pub mod Begin
pub mod First
