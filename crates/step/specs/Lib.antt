pub mod Sensor
pub mod Direction
pub mod Rate
pub mod Bench
