pub mod Lines
pub mod Pacing
pub mod Run
pub mod Playing
pub mod Commanded
pub mod Growing
pub mod Ways
pub mod Worked
