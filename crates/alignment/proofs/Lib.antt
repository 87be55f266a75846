-- in reading order
pub mod Alike  -- a test of two whole-number matrices
pub mod Products  -- one mounting after another is a product, undoing the transpose; on Alike
pub mod Entries  -- 0, 1 and -1, and their floats
pub mod Rotating  -- the turn by the matrix is the turn; on Entries
pub mod Reading  -- a mounting's places, and the matrix by them
pub mod Returning  -- what the calls' returns have to show; on Reading
pub mod Refusing  -- the law of the table
pub mod Determined  -- a result is the only one
mod Bench  -- examples
mod Wrong
