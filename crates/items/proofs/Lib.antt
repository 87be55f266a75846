-- in reading order
pub mod Taking  -- an item more, or none
pub mod Cutting  -- where a file is cut changes nothing; on Taking
mod Keeping  -- bytes copied to the front of a buffer
mod Wrong
