-- When dumps are equal, which graphs have dumps, and some dumps that are computed.
pub mod SameDumps
pub mod SameNumbers
pub mod SameValues
pub mod SameTexts
pub mod PlainDump
pub mod DumpedGraphs
pub mod WorkedDumps
