-- Dumps written and read: what is spelled, what is read, and the first fault.
pub mod Sending
pub mod Counts
pub mod SpelledIsRead
pub mod PartMeans
pub mod PartCount
pub mod ReadIsSpelled
pub mod FirstFault
pub mod PutRead
pub mod PutLines
pub mod PastLimit
pub mod ReadInput
