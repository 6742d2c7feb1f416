pub mod Ask
pub mod Fault
pub mod Table
pub mod lemmas
