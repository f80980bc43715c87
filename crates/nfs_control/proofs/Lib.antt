pub mod Putting
pub mod Together
