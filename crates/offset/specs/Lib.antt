pub mod Record
pub mod OneRecord
pub mod Restore
pub mod Exact
pub mod Determined
