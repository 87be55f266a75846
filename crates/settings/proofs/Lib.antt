pub mod Refusing  -- the law of the table
pub mod Over  -- which axes are over, and whether any is
pub mod Angles  -- an angle comes to the squared limit that it stands for
mod Wrong
