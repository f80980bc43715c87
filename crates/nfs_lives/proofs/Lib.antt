pub mod Fed
pub mod Texts
