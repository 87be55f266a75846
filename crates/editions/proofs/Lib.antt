-- in reading order
pub mod Part  -- the offset's part with another version: what it keeps
pub mod Accepting  -- what an accepted record of an edition has, and an accepted move
pub mod Lengths  -- which lengths and versions a restore takes; on Accepting
pub mod Numbering  -- the number of a record's checks, from that of its part; on Accepting
pub mod Storing  -- the stores of a move leave the moved record; on Part
pub mod Moved  -- up then down, and down then up; a refused move writes nothing; on Part and Accepting
pub mod Restored  -- the first edition's restore of the lowered record is the restore; on Part and Accepting
pub mod Once  -- twice equals once, and changes the offset alone; on Accepting
pub mod Alike  -- a record restores as before it was moved, and one of the first edition as before; on Moved
pub mod OldReader  -- the first edition's reader refuses the second
pub mod Refusing  -- of every call each number is given exactly when its row says
pub mod Determined  -- a promise has one result
pub mod Bench  -- the record of the bench table, moved and restored, by evaluation
mod Wrong  -- wrong answers that the promises refuse
