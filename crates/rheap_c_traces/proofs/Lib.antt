pub mod PlainText
mod Statuses
