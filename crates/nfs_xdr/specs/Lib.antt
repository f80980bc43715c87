pub mod Encoding
pub mod Reading
pub mod Written
pub mod Known
pub mod Driven
