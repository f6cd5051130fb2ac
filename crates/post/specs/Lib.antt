pub mod Links
pub mod Post
