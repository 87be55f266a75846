pub mod Calls
pub mod Sides
pub mod Exact
