-- in reading order
pub mod Refusing  -- of every call each number is given exactly when its row says
pub mod Determined  -- a promise has one result
pub mod Advancing  -- the next state of a reading
pub mod Finite  -- whether state, corrected reading and next state are finite, by fewer tests
pub mod Readings  -- so the number of a reading's checks
mod Wrong  -- wrong answers that the promises refuse
