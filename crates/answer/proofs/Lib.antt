-- in reading order
pub mod Ordering  -- which number a list of checks gives
pub mod Table  -- so of an ascending list the lowest; on Ordering
pub mod Joined  -- checks that come after others; on Table
pub mod Tests  -- what a test of several parts says of its parts
pub mod Answering  -- what the two returns of a call have to show, and that a promise has one result
pub mod Running  -- a run of calls, over any state
mod Wrong
