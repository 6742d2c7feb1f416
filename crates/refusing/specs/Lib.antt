pub mod RefusedNumber
