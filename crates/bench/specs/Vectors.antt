-- A root vector: 8 bytes, the bits of x and then the bits of its root, low byte first (01, "Bench table").
use Rattle.std.specs.Prelude.{ℕ, Bool, List, ◌==◌}
use Rattle.root.specs.Root.{sqrt_of}
use Rattle.wire.specs.Wire.{bits_at, float_of, bits_of}

-- any NaN counts as any other: `float_of` makes one of all, and `bits_of` gives it one pattern
abbrev pub right_of : List ℕ → Bool
right_of v = bits_of (sqrt_of (float_of (bits_at v 0))) == bits_at v 4
