pub mod Consumes
pub mod ReadNumber
pub mod NumberHead
pub mod RootHead
pub mod ReadInteger
pub mod FirstThree
pub mod WellFormed
pub mod PartsInOrder
