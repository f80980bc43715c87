pub mod Status
pub mod Sources
pub mod Readings
pub mod OpenLines
