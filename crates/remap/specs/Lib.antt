pub mod First
pub mod Counted
pub mod Given
pub mod Names
pub mod Composition
pub mod Inner
pub mod Exact
pub mod Determined
