-- in reading order
mod Glyphs  -- the hexadecimal digits in their order
pub mod Putting  -- a text over what a slice held, and where it fits
pub mod Pairs  -- a line of four words; on Putting
pub mod Feeding  -- a machine that is fed: refused, accepted, within the slice, and one result
pub mod Digits  -- the kit's digits are the number in decimal
pub mod Named  -- a name with its number; on Putting
pub mod Refused  -- a refusal's line, and how long it is; the last line of a log; on Digits and Named
mod Wrong
