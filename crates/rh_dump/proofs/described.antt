-- The plain heap that a graph describes, whose dump it is.
pub mod HeldRoots
pub mod NumberedNames
pub mod DescribedHeaps
