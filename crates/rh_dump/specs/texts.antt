-- The text of a dump: its lines, what they are read as, and their faults.
pub mod Line
pub mod Part
pub mod Reading
pub mod Putting
pub mod Faults
