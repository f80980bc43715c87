pub mod Heads
pub mod Needs
pub mod Surveys
pub mod Tallies
