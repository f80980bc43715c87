pub mod Limits
pub mod Bytes
pub mod Paged
pub mod Tables
