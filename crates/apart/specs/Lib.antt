pub mod Looks
pub mod Turns
pub mod Covered
pub mod Apart
pub mod Rows
