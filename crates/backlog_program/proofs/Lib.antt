pub mod Takes
pub mod Firsts
pub mod Malformed
pub mod Standing
pub mod Program
