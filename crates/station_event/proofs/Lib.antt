mod Small
mod Recovered
mod ByKind
pub mod Parts
