pub mod Finding
pub mod Items
pub mod Knowing
pub mod Writing
