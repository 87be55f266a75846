-- in reading order
mod Lining  -- the ten lines: how they are put, and that each has at most 37 bytes
pub mod Reading  -- the items as they are counted: a header, a record more, one past the last, or none
mod Counting  -- items one after another: the same end; on Reading
pub mod Feeding  -- the promises of the calls; each number exactly when, and one result
mod Capping  -- what is counted is the course, cut at the limit; on Reading
mod Adding  -- the totals after some items; on Reading
mod States  -- what every state of a course has
pub mod Exact  -- no trigger of a course is below 0 or too large; on States
pub mod Tabled  -- the number that ends a log is one of the table's
pub mod Cutting  -- wherever the file is cut; on Capping, Adding and Exact
mod Bench  -- the definitions at their edges
mod Wrong
