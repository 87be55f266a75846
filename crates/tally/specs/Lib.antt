pub mod Report
pub mod Counting
pub mod Feeding
pub mod Inner
