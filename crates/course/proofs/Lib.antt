-- in reading order
pub mod Judging  -- an item judged: a header, a record
pub mod Reading  -- the items of a log in some bytes, and the statements on a file
pub mod Tabled  -- the number that ends a log is one of the table's
pub mod Refusing  -- each number exactly when; one result
mod Wrong
