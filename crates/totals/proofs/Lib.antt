-- in reading order
pub mod Counting  -- what is kept is what is defined
mod Bench  -- the ten of small lists
mod Wrong
