pub mod Settings
pub mod Estimator
pub mod Calls
pub mod Exact
pub mod Determined
pub mod Inner
