pub mod Lives
pub mod Sharing
