pub mod Tokens
pub mod Clock
pub mod Unwaiting
