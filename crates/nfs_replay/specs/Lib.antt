pub mod Orders
pub mod Printed
pub mod Scripts
pub mod Sending
