pub mod Asks
pub mod Faults
pub mod Operations
pub mod ScriptFaults
pub mod Words
