pub mod Gathered
pub mod LispStatuses
pub mod SharedStatuses
pub mod StatusLaws
pub mod ThreadsHistory
pub mod ViewStatuses
pub mod Viewed
pub mod WorkedCounts
