pub mod Text
pub mod Putting
