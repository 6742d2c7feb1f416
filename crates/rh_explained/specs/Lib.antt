pub mod Line
pub mod Spot
