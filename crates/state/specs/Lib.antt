pub mod State
pub mod Beginning
