pub mod Start
pub mod Kept
pub mod Shares
pub mod Answers
