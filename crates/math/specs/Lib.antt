pub mod Matrices
pub mod Quaternions
pub mod Equal
