pub mod Given
pub mod Invocations
pub mod Journals
pub mod Named
