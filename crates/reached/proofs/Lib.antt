-- in reading order
pub mod Covered  -- the code's calls are the steps of a run
mod Timeouts  -- a product of a rate and a timeout is not below 0
mod Accepting  -- what an accepted call says; on Timeouts
mod Headed  -- a heading leaves all of a state but its orientation
mod Keeping  -- what every call keeps; on Accepting, Headed
mod Finite  -- which changes leave a state's floats finite
mod Counting  -- what holds of the counts after a reset and an update
mod Sound  -- what each call makes of a sound state; on Finite, Counting
pub mod Running  -- every state is sound; on Keeping, Sound
pub mod Lowering  -- a trigger goes above T only where T is lowered; on Keeping, Counting
pub mod Knocked  -- which axes went over; on Keeping, Counting
pub mod Deaf  -- how long each sensor has been ignored; on Keeping
pub mod Shown  -- the axes that went over and the counts are only shown
pub mod Angles  -- a filter by angles is one by squared limits; on Keeping
pub mod Leaving  -- from an orientation of zero: no update, but a restart or a quaternion set
pub mod Turned  -- what an accepted update makes of the orientation
pub mod Orienting  -- when the orientation is zero, and what it is otherwise; on Turned, Leaving
pub mod Headings  -- nothing overflows in what a heading makes of the orientation; on Running, Orienting
pub mod Hearing  -- a run leaves a sensor's counts as its readings do; on Deaf
pub mod Fresh  -- in startup both sensors are as freshly reset; on Running, Hearing
pub mod Recovery  -- a locked-out sensor always comes back; on Hearing
mod Bench  -- the smallest rate that overflows; how long a sensor has been ignored
mod Locked  -- runs in which a compass is locked out and comes back
