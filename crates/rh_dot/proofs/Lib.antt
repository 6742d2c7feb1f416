mod Parts
mod Nodes
mod Edges
mod LineCount
mod Texts
mod Same
