pub mod Edition
pub mod Move
pub mod Restore
pub mod OldReader
pub mod Exact
pub mod Determined
pub mod Inner
