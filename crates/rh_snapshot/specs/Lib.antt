pub mod Snapshot
pub mod Text
