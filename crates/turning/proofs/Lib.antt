-- in reading order
pub mod Running  -- the two passes over a run, and what an accepted run has
pub mod Refusing  -- the law of the table, and that a result is the only one
mod Wrong
