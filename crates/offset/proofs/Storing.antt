-- The stores into 18 bytes leave the record. Assumes nothing.
use Prim.Native.Nat.{ℕ}
use mathlib.Core.Path.{◌≡◌, ap, ◌∙◌}
use mathlib.Core.List.{List, ◌∷◌}
use lib.Dec.{T}
use lib.ListN.{length, set, drop}
use lib.Ieee.{Float, binary32, fits, of_bits}
use Rattle.number.specs.Float32.{◌⊕◌, zero}
use Rattle.number.specs.Same.{plain}
use Rattle.number.proofs.Plain.{plus_zero}
use Rattle.vector.specs.Vectors.{Singles}
use Rattle.wire.specs.Wire.{put_u16, put_bits, bits_of}
use Rattle.wire.proofs.Laws.{spelled}
use Rattle.offset.specs.declared.Offset.{Offset}
use Rattle.offset.specs.Record.{record_of}

abbrev pub marked : List ℕ → List ℕ
marked s = 0x47 ∷ 0x4F ∷ 0x46 ∷ drop 3 s

-- in the code's order
abbrev stores : Offset → List ℕ → List ℕ
stores o s =
    put_bits
    (put_bits
    (put_bits (set (put_u16 (marked s) 3 1) 5 o.mounting) 6 (bits_of (plain o.vector.x)))
    10 (bits_of (plain o.vector.y)))
    14 (bits_of (plain o.vector.z))

stored : (o : Offset) (s : List ℕ) → length s ≡ 18 → stores o s ≡ record_of o
unfolding record_of
stored o s e = ap (stores o) (spelled 18 s 0 e)

-- the pattern of a float that the code has added 0.0 to
bits_plain : {n : ℕ} (x : Float) → T (fits binary32 x) → n ≡ bits_of (x ⊕ zero) → n ≡ bits_of (plain x)
unfolding of_bits
bits_plain x t e = e ∙ ap bits_of (plus_zero binary32 x t)

pub puts : (o : Offset) (s : List ℕ) {t u v w : List ℕ} {x y z : ℕ} → Singles o.vector → length s ≡ 18 → t ≡ put_u16 (marked s) 3 1
    → x ≡ bits_of (o.vector.x ⊕ zero) → u ≡ put_bits (set t 5 o.mounting) 6 x
    → y ≡ bits_of (o.vector.y ⊕ zero) → v ≡ put_bits u 10 y
    → z ≡ bits_of (o.vector.z ⊕ zero) → w ≡ put_bits v 14 z
    → w ≡ record_of o
puts o s f h et ex eu ey ev ez ew =
    rw (ew, bits_plain o.vector.z f.z ez, ev, bits_plain o.vector.y f.y ey, eu, bits_plain o.vector.x f.x ex, et) (stored o s h)
