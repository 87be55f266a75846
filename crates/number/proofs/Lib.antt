-- in reading order
pub mod Signs  -- the operations under a change of sign
pub mod Same  -- floats that are the same number give results that are; on Signs
pub mod Size  -- what the tests of `fabsf`, `is_larger` and `is_finite` say
pub mod Exact  -- a number that its format holds is a whole number of the smallest, and rounds to itself
pub mod Plain  -- x + 0.0 is x without the sign of a zero; on Signs, Size and Exact
pub mod Zeros  -- a product with a zero and a sum of two are zeros; on Signs
pub mod Neutral  -- products with 0, 1 and -1 and sums with 0 round nothing; on Same, Plain and Zeros
pub mod Finite  -- a finite sum, difference or product shows finite operands
pub mod Rounding  -- a rounded fraction lies near the fraction
pub mod Units  -- products, sums and reciprocals in units of the smallest f32; on Signs, Exact and Rounding
pub mod Vanish  -- what is zero where a product or a sum is; on Neutral, Finite and Units
pub mod Signed  -- a float against the ends of 32 bits, and what it is cut to
pub mod AtMost  -- a number of a size at most a whole number, and sums and products of such; on Signs, Zeros, Units and Signed
pub mod Quotient  -- the quotient of two whole numbers is finite; on AtMost
pub mod Apart  -- values told apart by a code, for each crate's `Wrong`
mod Wrong
