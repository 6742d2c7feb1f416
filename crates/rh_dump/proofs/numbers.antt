-- The search that numbers what the roots reach, and the graph that it stores.
pub mod ObjectsIn
pub mod Names
pub mod RootLists
pub mod Numbered
pub mod MetValues
pub mod FlatDump
pub mod Index
pub mod NumberingSteps
