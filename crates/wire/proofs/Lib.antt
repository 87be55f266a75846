-- in reading order
pub mod Laws  -- patterns and floats, and the bytes of a number
pub mod Written  -- what was written is read back; on Laws
pub mod Cutting  -- where the bytes are cut changes nothing, for any machine
pub mod Bench  -- the numbers of the bench record
mod Wrong
