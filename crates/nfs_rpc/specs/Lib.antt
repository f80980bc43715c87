pub mod Records
pub mod Progress
pub mod Stages
pub mod Kept
pub mod Lent
pub mod Calls
pub mod AuthSys
pub mod Replies
