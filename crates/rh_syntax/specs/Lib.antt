pub mod TrayName
pub mod Leading
pub mod Line
pub mod Spelling
pub mod Reading
pub mod Faults
pub mod CommandAnswers
pub mod lemmas
