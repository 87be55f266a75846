-- in reading order
pub mod Searching  -- a search by number, and bytes compared one by one
pub mod Tabled  -- a table's rule as one computed test
pub mod Naming  -- each name is read as its mounting, and no other bytes are it; on the three above
pub mod Determinant  -- of all signed triples those of determinant 1 are named
pub mod Packed  -- numbers packed into one, and read back
pub mod Composing  -- one mounting after another, and undone
pub mod Refusing  -- the law of the table
pub mod Determined  -- a result is the only one
mod Wrong
