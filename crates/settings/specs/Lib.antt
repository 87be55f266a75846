pub mod Limit
pub mod Config
pub mod Axes
pub mod Angles
