pub mod Whole
pub mod Matrix
pub mod Laws
pub mod Exact
pub mod Determined
pub mod Inner
