pub mod Copies
pub mod RoundTrip
pub mod Changes
