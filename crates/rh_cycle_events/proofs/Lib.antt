pub mod PartsHeard
pub mod Spelled
pub mod LinesRead
