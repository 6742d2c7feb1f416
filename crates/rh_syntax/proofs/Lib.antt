pub mod LeadingLines
pub mod OneRequest
pub mod WorkedReading
pub mod WorkedRefusals
pub mod OneAnswer
pub mod Begins
pub mod Steps
