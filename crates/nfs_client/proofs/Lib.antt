pub mod Numbers
pub mod Ways
pub mod Rooms
pub mod Encoded
pub mod Heads
