pub mod Pages
pub mod Walk
pub mod Laws
pub mod Example
pub mod Opening
