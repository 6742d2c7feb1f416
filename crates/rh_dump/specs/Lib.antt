pub mod Dump
pub mod Graph
pub mod Numbering
pub mod Dumpable
pub mod Meeting
pub mod PlainDump
pub mod texts
pub mod lemmas
