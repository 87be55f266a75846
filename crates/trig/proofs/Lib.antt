-- in reading order
pub mod Around  -- a fixed-point number near a fraction, and what a stage of a nested series adds to what it is off
pub mod Powers  -- powers as products of squares
pub mod Terms  -- the terms of the nested products, and of 02's power series
pub mod Nested  -- the nested products are 02's power series; on Powers and Terms
pub mod Series  -- the fixed-point series are within a few units of 02's; on Around and Nested
pub mod Turns  -- the nearest multiple of 90 degrees
pub mod Reduce  -- the nearest multiple of 90 degrees, and that the grid is reduced as the exact angle is
pub mod Quarter  -- size and sign on the grid, against the reference; on Series and Reduce
pub mod Steps  -- a float is cut to steps of the grid
pub mod Grid  -- a float in the range is on the grid, or less than a step off; on Reduce and Steps
pub mod Rounding  -- one rounding of a fraction near a size; on number's Rounding
pub mod Within  -- so what the series give is within 2 ^ -23; on Quarter, Grid and Rounding
pub mod Slope  -- below a degree the slope times the angle is the sine, in fixed point
pub mod Small  -- so their product is within 2 ^ -23; on Slope and Within
pub mod Waves  -- the theorem of the sine and the cosine, and which case each return is; on Within and Small
pub mod Limited  -- the squared limit is finite and not below 0; on Rounding and Small
pub mod Neighbours  -- how far the fixed-point sine and cosine move from one step to the next; on Series and Quarter
pub mod Search  -- the bisection keeps the tangent between its ends, and leaves one step
pub mod Octants  -- the angle that is found has nearly the tangent; on Neighbours and Search
pub mod Levels  -- so what is found is at most 45 degrees, and level
pub mod Tangent  -- the angle's error budget; on Quarter and Octants
pub mod Place  -- where an angle stands that is so many steps from a quarter turn; on Series, Reduce and Quarter
pub mod Stood  -- how near its sine and cosine are, and their signs; on Place
pub mod Turned  -- 02's two conditions, with the signs in place
pub mod Conditions  -- the two conditions of an angle that stands somewhere; on Tangent, Stood and Turned
pub mod Eight  -- so in each case of the signs and of the larger size; on Conditions
pub mod Ratios  -- a rounded quotient, cut to steps, is within a step; on Rounding and Steps
pub mod Lifted  -- steps less 360 degrees, as a float: exact, in its range, and where it stands; on Rounding
pub mod Sizes  -- what the tests of signs and sizes tell
pub mod Angles  -- the theorem of the angle; on Eight, Ratios, Lifted and Sizes
pub mod ZeroSign  -- the angle does not see the sign of a zero
pub mod Bearings  -- which case each return is; on Angles
pub mod InTurn  -- the range of the sine and the cosine is up to 360 in size, and the angle is in it; on Angles
pub mod Finite  -- the sine and the cosine are at most 2 in size in their range, and finite exactly there; on Waves and Limited
pub mod Wide  -- and one of them is above a half in size there; on Quarter and Rounding
pub mod Answering  -- what the calls' returns have to show
pub mod Refusing  -- the law of the table
pub mod Determined  -- a result is the only one
mod Bench  -- examples
mod Wrong
