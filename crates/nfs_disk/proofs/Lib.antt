pub mod Heads
pub mod Lasting
pub mod Owning
