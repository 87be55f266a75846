-- in reading order
pub mod Given  -- what no check refuses is known, finite and in range
pub mod Setting  -- what a heading that is set promises; on Given
pub mod External  -- what an update with a heading from elsewhere promises; on Given
pub mod Unaided  -- what one with none promises; on Given
pub mod Pair  -- two numbers that are turned together are zeros exactly where they were
pub mod Zeros  -- a heading that is set makes no orientation zero, nor a zero one anything else; on Pair
pub mod Finite  -- what a heading makes of an orientation of small components is finite
pub mod Refusing  -- each number is given exactly when its row says
pub mod Determined  -- a promise has one result
mod Wrong
