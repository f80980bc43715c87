pub mod Fragments
pub mod Streams
pub mod Steps
pub mod Lent
pub mod Calls
pub mod AuthSys
pub mod Gids
pub mod Replies
