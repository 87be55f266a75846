pub mod Turn
pub mod Calls
