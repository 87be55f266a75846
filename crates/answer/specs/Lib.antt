pub mod Refusals
pub mod Order
pub mod Said
pub mod Rows
pub mod Answers
pub mod Promises
pub mod Runs
