-- That a graph is the same as another: what is paired, and that it is an equivalence.
pub mod ReachedPaired
pub mod SameGraphTransitive
pub mod SameGraphSymmetric
pub mod SameGraphReflexive
pub mod SameValueEqual
pub mod SameGraphReached
