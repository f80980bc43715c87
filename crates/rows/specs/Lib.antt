pub mod Stutters
