-- in reading order
pub mod Equal  -- what the derived == says
pub mod Shows  -- a finite quaternion shows finite operands
pub mod Zeros  -- a quaternion of zeros stays one, and has no finite norm; on Shows
pub mod Bounds  -- whole numbers: four rounded squares and their sum
pub mod Scaling  -- whole numbers: the same of four that are divided by their norm; on Bounds
pub mod Norm  -- the norm squared in units of the smallest f32; on Bounds and Scaling
pub mod Reciprocal  -- the norm's reciprocal in these units; on Norm
pub mod Length  -- a normalized quaternion's norm squared lies from 0.25 to 4; on Shows and Reciprocal
pub mod Normal  -- a normalized quaternion is of such a length, or all zero where the norm squared is infinite; on Zeros and Length
pub mod Small  -- a quaternion of small components and products of such; one of such a length is one; on Zeros and Length
mod Wrong
