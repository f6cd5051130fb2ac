pub mod Reach
pub mod Values
pub mod Steps
pub mod PurgingSteps
pub mod ShowingValues
