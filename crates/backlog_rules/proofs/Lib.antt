pub mod Laws
pub mod Threes
pub mod Tracing
pub mod Joining
pub mod OneByOne
pub mod Answering
