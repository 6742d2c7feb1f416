pub mod Line
pub mod Texts
pub mod Events
pub mod Cycles
