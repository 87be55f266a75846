-- in reading order
pub mod Whole  -- the nearest whole root, without fractions
pub mod Scaled  -- the digits of a finite number above zero
pub mod Squared  -- how the code makes `squared_of` and half of `exponent_of`
pub mod Patterns  -- bit patterns and sizes; larger bits, larger number
pub mod Midpoints  -- x lies between the squares of the two midpoints; on the three above
pub mod Neighbours  -- no float lies between the root and its neighbours
pub mod Nearest  -- what `sqrt_of` computes is the root, and nothing else is
pub mod Rooted  -- the root's square lies within 2 ^ -23 of the number; on Midpoints
pub mod Wrong
