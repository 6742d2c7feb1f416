pub mod History
pub mod Legal
pub mod Spelling
pub mod Report
pub mod Reading
pub mod Faults
