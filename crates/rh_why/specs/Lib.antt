pub mod Path
pub mod Way
