pub mod Calls
pub mod Places
pub mod Records
pub mod Requests
pub mod Ways
pub mod ReadBack
