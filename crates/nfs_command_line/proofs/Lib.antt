pub mod Spans
