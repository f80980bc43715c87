pub mod Rules
pub mod Rights
pub mod Subjects
pub mod Tests
pub mod Table
pub mod Verdicts
pub mod Judging
pub mod Views
