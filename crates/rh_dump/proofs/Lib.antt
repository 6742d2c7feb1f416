mod numbers
pub mod texts
mod graphs
mod described
