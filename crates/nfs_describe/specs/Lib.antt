pub mod Outputs
pub mod Places
pub mod Lines
pub mod Texts
