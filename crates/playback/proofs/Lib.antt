-- in reading order
mod Lining  -- the line of an orientation
mod Playing  -- items one after another: the same end; on Lining
pub mod Feeding  -- the promises of the calls; each number exactly when, and one result
pub mod Cutting  -- wherever the file is cut
mod Wrong
