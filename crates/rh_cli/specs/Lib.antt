pub mod Arguments
pub mod Drive
pub mod Lisp
pub mod Outputs
pub mod Views
