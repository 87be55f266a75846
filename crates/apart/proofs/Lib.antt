pub mod Covered  -- the code's calls are the turns of a run
pub mod Apart  -- a party's run is its own, with what it sees
pub mod Rows  -- the row in use and the filter in every run
mod Wrong
