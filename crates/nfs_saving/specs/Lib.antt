pub mod Digests
pub mod Saving
