-- Single precision's operations as the source writes them, and its constants by their bits.
use Rattle.std.specs.Prelude.{from_bits, Float}
use Rattle.std.specs.Float.{binary32}
use Rattle.std.specs.Float.Ieee.{add, sub, mul, div}

infixl 60 ◌⊕◌ ◌⊖◌
infixl 70 ◌⊗◌ ◌⊘◌
abbrev pub ◌⊕◌ : Float → Float → Float
x ⊕ y = add binary32 x y

abbrev pub ◌⊖◌ : Float → Float → Float
x ⊖ y = sub binary32 x y

abbrev pub ◌⊗◌ : Float → Float → Float
x ⊗ y = mul binary32 x y

abbrev pub ◌⊘◌ : Float → Float → Float
x ⊘ y = div binary32 x y

abbrev pub zero : Float
zero = from_bits binary32 0

abbrev pub one : Float
one = from_bits binary32 0x3f80_0000

abbrev pub two : Float
two = from_bits binary32 0x4000_0000

abbrev pub four : Float
four = from_bits binary32 0x4080_0000

abbrev pub half : Float
half = from_bits binary32 0x3f00_0000

abbrev pub quarter : Float
quarter = from_bits binary32 0x3e80_0000

-- the largest finite f32
abbrev pub largest : Float
largest = from_bits binary32 0x7f7f_ffff

abbrev pub infinity : Float
infinity = from_bits binary32 0x7f80_0000
