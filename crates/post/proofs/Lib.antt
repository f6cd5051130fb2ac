pub mod Counts
pub mod LinkLaws
pub mod PostLaws
pub mod Made
