pub mod Paths
pub mod Rows
pub mod Opening
pub mod Tellings
