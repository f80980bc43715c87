pub mod Totalling
