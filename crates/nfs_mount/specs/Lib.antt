pub mod Mounts
pub mod MountRules
pub mod MountAnswers
pub mod Laws
pub mod Example
