pub mod Elements
pub mod Objects
pub mod RootValue
pub mod SameGraph
pub mod Step
