pub mod Asked
pub mod Outgoing
pub mod Turns
pub mod Service
