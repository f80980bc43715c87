pub mod Cuts
pub mod OpenLines
pub mod Readings
pub mod Rows
pub mod Sources
