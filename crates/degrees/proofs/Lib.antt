-- in reading order
mod Wrong
