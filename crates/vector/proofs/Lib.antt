-- in reading order
pub mod Equal  -- what the derived == says
pub mod Shows  -- a finite result shows finite operands
pub mod Matched  -- the last arm of a match with an arm for each mounting
pub mod Axes  -- a mounting's places, and a vector read by them
pub mod AllFinite  -- a sum that is a NaN exactly when one of two floats is not finite
pub mod Determinant  -- the mountings are all of determinant 1
pub mod Turning  -- what turning keeps: tests of size, and the arithmetic, zero's sign aside
pub mod Determined  -- a result is the only one
mod Wrong
