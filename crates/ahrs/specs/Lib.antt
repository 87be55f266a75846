pub mod Filter
pub mod Read
pub mod Calls
pub mod Inner
pub mod Exact
pub mod Determined
