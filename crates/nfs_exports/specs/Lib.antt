pub mod Addresses
pub mod Patterns
pub mod Options
pub mod Ids
pub mod Words
pub mod Settings
pub mod Tables
