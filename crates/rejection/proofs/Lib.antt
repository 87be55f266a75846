-- in reading order
pub mod Order  -- the order of whole numbers
pub mod Inside  -- counts stay between their ends; on Order
pub mod Recovery  -- a locked-out sensor always comes back; on Inside
mod Bench  -- how long it is locked out and recovers, at some T
mod Wrong
