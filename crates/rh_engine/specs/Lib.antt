pub mod Trays
pub mod Engine
pub mod CycleAnswers
pub mod ToldAnswers
pub mod WatchAnswers
