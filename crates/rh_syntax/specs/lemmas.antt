pub mod TrayNames
pub mod LinesInTurn
pub mod ReadIsSpelled
pub mod SpelledIsRead
pub mod FirstFault
pub mod TextNumbers
