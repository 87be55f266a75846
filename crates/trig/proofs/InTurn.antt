-- The range of the sine and the cosine is up to 360 in size; the angle of finite y and x is in it, and it is an f32. Assumes nothing.
use Rattle.std.proofs.Common.{ℕ, ◌+◌, ◌-◌, ◌*◌, ◌≤◌, Bool, true, false, cond, ◌&&◌, ◌||◌, T, eqb, ltb, pos, sym, subst, inl, inr, le_of_eq, eq-or-lt_of_le}
use Rattle.std.proofs.Common.{arith, ltb→lt, lt→ltb, lt-ltb, eq-eqb}
use lib.Ieee.{Float, nan, inf, fin, binary32, fits, of_bits, up, down, neg, lt, le, eq}
use lib.Ieee.Bits.{of_bits-fits}
use lib.Ieee.Fits.{and_i, and_l, and_r, down_pos, cond-fits, nan-fits, neg-fits, div-fits}
use lib.Ieee.Positive.{num, den}
use lib.Ieee.Scale.{finite}
use Rattle.number.specs.Float32 as float
use Rattle.number.specs.Float32.{◌⊘◌}
use Rattle.number.specs.Same.{fabsf_of}
use Rattle.number.proofs.AtMost.{Within, AtMost}
use Rattle.trig.specs.Degrees.{in_turn, sine_at, cosine_at}
use Rattle.trig.specs.Wave.{whole}
use Rattle.trig.specs.Angle.{signed, turns_to, straight, is_angle, Angled, nowhere, toward, two_to16, full_turn, degrees_of, bearing_of, angle_of}
use Rattle.trig.proofs.Steps.{either_le, turn_bound}
use Rattle.trig.proofs.Ratios.{or_l, le_either}
use Rattle.trig.proofs.Angles.{angles}

-- ---- the range is up to 360 in size

within_turn : (x : Float) → T (in_turn x) → Within 360 x
unfolding le lt eq of_bits neg
within_turn nan t = absurd t
within_turn (inf true) t = absurd t
within_turn (inf false) t = absurd t
within_turn (fin s m e) t = turn_bound s m e t

pub turn_most : {x : Float} → T (in_turn x) → AtMost 360 x
turn_most {x} t = record { within = within_turn x t }

-- the test `<=` of two negative floats
le_other : (p q : ℕ) → p ≤ q → T (ltb p q || (eqb q p && true))
le_other p q h = elim (eq-or-lt_of_le h) [ inl e ↦ rw (eq-eqb q p (sym e)) (or_r (ltb p q)) | inr l ↦ rw (lt-ltb p q l) tt ]
  where
    or_r : (a : Bool) → T (a || true)
    or_r true = tt
    or_r false = tt

within_in_turn : (x : Float) → Within 360 x → T (in_turn x)
unfolding le lt eq of_bits neg
within_in_turn nan h = absurd h
within_in_turn (inf s) h = absurd h
within_in_turn (fin true m e) h =
    and_i (le (fin true 45 (pos 3)) (fin true m e)) (le (fin true m e) (fin false 45 (pos 3)))
    (le_other (m * up e * 1) (360 * down e) (omega arith))
    (or_l (ltb 0 (m * up e * 1 + 360 * down e)) (eq (fin true m e) (fin false 45 (pos 3))) (lt→ltb 0 (m * up e * 1 + 360 * down e) (omega (arith, down_pos e))))
within_in_turn (fin false m e) h =
    and_i (le (fin true 45 (pos 3)) (fin false m e)) (le (fin false m e) (fin false 45 (pos 3)))
    (or_l (ltb 0 (360 * down e + m * up e * 1)) (eq (fin true 45 (pos 3)) (fin false m e)) (lt→ltb 0 (360 * down e + m * up e * 1) (omega (arith, down_pos e))))
    (le_either (m * up e * 1) (360 * down e) (omega arith))

pub most_in_turn : {x : Float} → AtMost 360 x → T (in_turn x)
most_in_turn {x} h = within_in_turn x h.within

-- ---- an angle is up to 180

half_turn : (r : Float) → T (lt (neg straight) r) → T (le r straight) → Within 360 r
unfolding lt le eq of_bits neg
half_turn nan l h = absurd l
half_turn (inf true) l h = absurd l
half_turn (inf false) l h = absurd h
half_turn (fin true m e) l h = omega (arith, ltb→lt (m * up e * 1) (180 * down e) l)
half_turn (fin false m e) l h = omega (arith, either_le (m * up e * 1) (180 * down e) (m * up e * 1) (180 * down e) true le_of_eq h)

pub zero_in_turn : T (in_turn float.zero)
unfolding lt le eq of_bits neg
zero_in_turn = tt

angled_in_turn : (y x r : Float) → Angled y x r → T (in_turn r)
unfolding is_angle
angled_in_turn y x r (nowhere a b e) = subst (λ (z : Float). T (in_turn z)) (sym e) zero_in_turn
angled_in_turn y x r (toward t) =
    let points = turns_to (signed y) (num y * den x) (signed x) (num x * den y) (sine_at r) (cosine_at r) in
    let range : T (lt (neg straight) r && le r straight) = and_l (lt (neg straight) r && le r straight) points t in
    within_in_turn r (half_turn r (and_l (lt (neg straight) r) (le r straight) range) (and_r (lt (neg straight) r) (le r straight) range))

pub angle_in_turn : (y x : Float) → T (finite y) → T (finite x) → T (in_turn (angle_of y x))
angle_in_turn y x fy fx = angled_in_turn y x (angle_of y x) (angles y x fy fx)

degrees_fits : (steps : ℕ) → T (fits binary32 (degrees_of steps))
unfolding degrees_of
degrees_fits steps =
    cond-fits binary32 (ltb steps full_turn) (neg (whole (full_turn - steps) ⊘ two_to16)) (whole (steps - full_turn) ⊘ two_to16)
    (neg-fits binary32 _ (div-fits binary32 (whole (full_turn - steps)) two_to16)) (div-fits binary32 (whole (steps - full_turn)) two_to16)

pub angle_fits : (y x : Float) → T (fits binary32 (angle_of y x))
unfolding angle_of bearing_of
angle_fits y x = by_tests (finite y && finite x) (lt (fabsf_of x) (fabsf_of y)) (lt float.zero (fabsf_of x)) _ _
  where
    by_tests : (finite steep some : Bool) (m n : ℕ) → T (fits binary32 (cond finite (cond steep (degrees_of m) (cond some (degrees_of n) float.zero)) nan))
    by_tests true true some m n = degrees_fits m
    by_tests true false true m n = degrees_fits n
    by_tests true false false m n = of_bits-fits binary32 0
    by_tests false steep some m n = nan-fits binary32
