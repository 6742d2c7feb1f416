pub mod Lines
pub mod Options
pub mod Limiting
pub mod Matching
pub mod Run
