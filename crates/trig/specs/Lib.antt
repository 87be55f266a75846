pub mod Series
pub mod Degrees
pub mod Fixed
pub mod Wave
pub mod Limit
pub mod Octant
pub mod Angle
pub mod Calls
