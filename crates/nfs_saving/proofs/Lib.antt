pub mod Digests
pub mod Saved
