mod Counts
mod Parts
mod Sections
mod Edges
