pub mod Lists
pub mod Putting
pub mod Cutting
pub mod Nested
pub mod InRows
pub mod InBlocks
pub mod Shown
