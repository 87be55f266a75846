pub mod Counts
pub mod Inside
pub mod Readings
pub mod Recovery
