-- The numbers of 01's bench record, by evaluation. Assumes nothing.
use Prim.Native.Nat.{ℕ}
use lib.IntN.{pos, negsuc}
use mathlib.Core.Path.{◌≡◌, refl}
use mathlib.Core.Bool.{true, false}
use mathlib.Core.List.{List, [], ◌∷◌}
use lib.Ieee.{fin, nan, of_bits, to_bits}
use Rattle.wire.specs.Wire.{u16_at, bits_at, float_of, bits_of}

-- 01 00, then 1, -2 and 0.5
record_bytes : List ℕ
record_bytes = 0x01 ∷ 0x00 ∷ 0x00 ∷ 0x00 ∷ 0x80 ∷ 0x3F ∷ 0x00 ∷ 0x00 ∷ 0x00 ∷ 0xC0 ∷ 0x00 ∷ 0x00 ∷ 0x00 ∷ 0x3F ∷ []

bench :
    (u16_at record_bytes 0 ≡ 1)
    × (float_of (bits_at record_bytes 2) ≡ fin false 1 (pos 0))
    × (float_of (bits_at record_bytes 6) ≡ fin true 1 (pos 1))
    × (float_of (bits_at record_bytes 10) ≡ fin false 1 (negsuc 0))
    × (bits_of nan ≡ 0x7FC00000)
unfolding record_bytes of_bits to_bits
bench = (refl, refl, refl, refl, refl)
