pub mod Contents
pub mod Exports
pub mod Names
pub mod Outputs
pub mod Volumes
pub mod Walks
