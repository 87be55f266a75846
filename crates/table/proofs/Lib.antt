-- in reading order
pub mod Refusing  -- each number is given exactly when its row says
pub mod Sides  -- what a rewrite promises of the party it promises of the foot
pub mod Determined  -- a promise has one result
mod Wrong
