pub mod Cycles
pub mod Line
pub mod Heaps
pub mod Runs
