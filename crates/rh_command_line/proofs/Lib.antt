pub mod ClapMatches
pub mod Loops
pub mod Together
