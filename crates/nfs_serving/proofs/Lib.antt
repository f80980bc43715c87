pub mod Turning
pub mod Settling
pub mod Service
pub mod Windows
pub mod Failed
