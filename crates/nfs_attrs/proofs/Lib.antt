pub mod Finds
pub mod Writes
