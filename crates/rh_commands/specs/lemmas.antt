pub mod Known
pub mod Statuses
