-- in reading order
pub mod Marked  -- the mark that bytes start with
pub mod Storable  -- what a record may hold
pub mod Accepting  -- what an accepted record has, and an accepted write
pub mod Refusing  -- of every call each number is given exactly when its row says
pub mod Determined  -- a promise has one result
pub mod Storing  -- the stores into 18 bytes leave the record
pub mod ReadWritten  -- what was written is read with plus zeros; on Storable and Accepting
pub mod WrittenRead  -- what was read is written; on Storable and Accepting
pub mod OneRecord  -- one offset and mounting have one record; on ReadWritten and WrittenRead
pub mod Turning  -- a vector that was checked is turned, and stays finite
pub mod Restored  -- setting the turned offset is the restore; on Accepting and Turning
pub mod Once  -- twice equals once, and changes the offset alone; on Accepting and Turning
pub mod Saved  -- what was written is restored, and saved again; on OneRecord and Once
pub mod Bench  -- the record's row of the bench table
mod Wrong  -- wrong answers that the promises refuse
