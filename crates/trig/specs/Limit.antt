-- 02, P3: the squared limit that a rejection angle in degrees stands for, as in the Rust, with our sine.
use Rattle.std.specs.Prelude.{◌≡◌, true, false, cond, T, Float}
use Rattle.std.specs.Float.Ieee.{eq, lt}
use Rattle.std.specs.Float.Ieee.Scale.{finite}
use Rattle.number.specs.Float32.{◌⊗◌, zero, half, largest}
use Rattle.trig.specs.Degrees.{in_turn}
use Rattle.trig.specs.Wave.{sin_of}

-- half the sine, squared; of the angle 0, of either sign, the largest f32, which limits nothing
unfoldable pub rejection_threshold_of : Float → Float
rejection_threshold_of degrees =
    let half-sin = half ⊗ sin_of degrees in
    cond (eq degrees zero) largest (half-sin ⊗ half-sin)

-- of every angle in the range it is finite, and not below 0: proved in proofs/Limited
abbrev pub Limited : Type 0
Limited = (x : Float) → T (in_turn x) → (finite (rejection_threshold_of x) ≡ true) × (lt (rejection_threshold_of x) zero ≡ false)
