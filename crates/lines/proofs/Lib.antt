-- in reading order
pub mod Answering  -- the answer to a line, and that it can be printed
pub mod Keeping  -- a line after one byte more, and what the byte prints; on Answering
pub mod Feeding  -- a part fed byte by byte; on Keeping
pub mod Promising  -- where a call has room
pub mod Cutting  -- wherever the input is cut; on Keeping
pub mod Refusing  -- each number exactly when; one result
pub mod Bench  -- 01's example
mod Wrong
