pub mod Exports
pub mod Judgements
