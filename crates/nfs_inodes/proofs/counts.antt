pub mod Operations
pub mod Additions
pub mod FileChanged
pub mod Removals
pub mod Carried
