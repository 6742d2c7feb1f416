pub mod CycleLines
pub mod Cycled
pub mod Endings
pub mod Entries
pub mod EntryText
pub mod InTurn
pub mod NoHeap
pub mod ReadHeaps
