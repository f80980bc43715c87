pub mod Lookups
pub mod Places
pub mod Shows
pub mod Counts
