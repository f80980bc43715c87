pub mod Prefixes
pub mod Walks
pub mod Sizes
pub mod Joins
pub mod Firsts
pub mod Shown
pub mod Opened
