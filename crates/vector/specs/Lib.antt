pub mod Vectors
pub mod Equal
pub mod Mounting
pub mod Axes
pub mod Determinant
pub mod Turned
pub mod Determined
pub mod Inner
