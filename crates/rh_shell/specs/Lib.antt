pub mod HelpText
pub mod OutputLog
pub mod Session
pub mod Typing
