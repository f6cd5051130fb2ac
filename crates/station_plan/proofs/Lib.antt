mod Sets
mod Carried
pub mod Laws
