pub mod Asked
pub mod Granted
pub mod Kept
