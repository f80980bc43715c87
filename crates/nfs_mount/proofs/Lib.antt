pub mod Pairs
pub mod Places
pub mod Listed
pub mod Patterns
pub mod Kept
