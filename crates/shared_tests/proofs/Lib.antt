pub mod EndsHere
