pub mod Firsts
pub mod Skipped
pub mod Numbered
pub mod Open
