pub mod Float32
pub mod Same
pub mod Whole
