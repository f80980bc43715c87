pub mod Names
pub mod Statuses
