pub mod Explain
pub mod Judging
pub mod Block
