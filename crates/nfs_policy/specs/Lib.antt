pub mod Shape
pub mod Reading
pub mod Policy
pub mod Naming
pub mod Confining
pub mod Choices
pub mod Refusals
pub mod Complete
