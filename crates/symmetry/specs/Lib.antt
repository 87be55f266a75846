pub mod Runs
pub mod Reached
pub mod Symmetry
