-- in reading order
pub mod Ratio  -- the trigger ratio is finite, and T is tested against 0 by its bits
pub mod Shows  -- what an update works out is finite only where what it was given is
pub mod Bench  -- the starred rows of the rejection
mod Wrong
