pub mod Files
pub mod Room
pub mod Names
pub mod Renames
