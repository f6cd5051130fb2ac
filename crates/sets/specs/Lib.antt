pub mod Sets
pub mod Rooms
