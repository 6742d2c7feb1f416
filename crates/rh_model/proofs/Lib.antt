mod same_graphs
mod PlainAsDefined
mod RefusalOrder
mod ReachedLeast
mod CommandEffects
mod StaysWellFormed
mod StaysUnreached
mod Stored
