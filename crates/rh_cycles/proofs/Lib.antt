pub mod Readings
pub mod Sums
pub mod Events
pub mod Parts
pub mod Begins
pub mod Flips
