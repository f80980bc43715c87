pub mod Queued
pub mod Written
pub mod Wordings
