-- in reading order
pub mod Finite  -- a state's floats, part by part
pub mod Shows  -- a next state that is finite shows what it was made of; on Finite
pub mod Updating  -- whether an update is refused; on Shows
pub mod Refusing  -- each number is given exactly when its row says
pub mod Determined  -- a promise has one result
mod Wrong
