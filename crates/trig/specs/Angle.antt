-- 02, P10: the angle of y and x in degrees: what it has to meet, over whole numbers; the angle as the port works it out; and that it does.
use Rattle.std.specs.Prelude.{◌≡◌, ℕ, zero, suc, ◌+◌, ◌-◌, ◌*◌, ◌/◌, ◌^◌, max, Bool, true, false, cond, not, ◌&&◌, T, from_bits, nat_le, nat_lt, Float}
use Rattle.std.specs.Float.{nan, inf, fin, binary32}
use Rattle.std.specs.Float.Ieee.{up, down, unlike, below, neg, lt, le}
use Rattle.std.specs.Float.Ieee.Positive.{num, den}
use Rattle.std.specs.Float.Ieee.Scale.{finite}
use Rattle.number.specs.Float32 as float
use Rattle.number.specs.Float32.{◌⊘◌}
use Rattle.number.specs.Same.{Same, fabsf_of}
use Rattle.trig.specs.Degrees.{Fraction, gap, sine_at, cosine_at}
use Rattle.trig.specs.Wave.{steps_of, whole}
use Rattle.trig.specs.Octant.{octant_of}

-- ---- what 02 asks

-- whether a float has the minus sign
abbrev pub signed : Float → Bool
signed nan = false
signed (inf s) = s
signed (fin s m e) = s

-- x * cosine + y * sine is above 0, and the size of y * cosine - x * sine is at most 2 ^ -20 times the larger of the sizes of x and y. Here y and x are these
-- sizes, over one denominator, and down and back say that there is a minus; the fractions are brought to one denominator too, the product of their own
abbrev pub turns_to : Bool → ℕ → Bool → ℕ → Fraction → Fraction → Bool
turns_to down y back x sine cosine =
    let sines = sine.top * cosine.bottom in
    let cosines = cosine.top * sine.bottom in
    below (not (unlike down sine.minus)) (y * sines) (unlike back cosine.minus) (x * cosines)
    && nat_le (gap (unlike down cosine.minus) (y * cosines) (unlike back sine.minus) (x * sines) * 2 ^ 20) (max x y * (sine.bottom * cosine.bottom))

-- 180
abbrev pub straight : Float
straight = from_bits binary32 0x4334_0000

-- r is above -180 and at most 180, and meets both conditions for y and x, which are finite and not both zero
unfoldable pub is_angle : Float → Float → Float → Bool
is_angle y x r =
    lt (neg straight) r && le r straight
    && turns_to (signed y) (num y * den x) (signed x) (num x * den y) (sine_at r) (cosine_at r)

-- r is an angle of y and x, which are finite: plus zero where both are zero, of whichever sign. There `is_angle` holds of no r, as it asks for more than 0
pub data Angled (y x r : Float) : Type 0 where
  nowhere : num y ≡ 0 → num x ≡ 0 → r ≡ float.zero → Angled y x r
  toward : T (is_angle y x r) → Angled y x r

-- ---- the angle as the port works it out

-- 2 ^ 16
abbrev pub two_to16 : Float
two_to16 = from_bits binary32 0x4780_0000

-- what `ratio` asks: a and b are finite and have no sign, a is at most b, and b is above 0
abbrev pub ordered : Float → Float → Bool
ordered nan b = false
ordered (inf s) b = false
ordered (fin s m e) nan = false
ordered (fin s m e) (inf t) = false
ordered (fin true m e) (fin t n d) = false
ordered (fin false m e) (fin true n d) = false
ordered (fin false m e) (fin false n d) = nat_lt 0 n && nat_le (m * up e * down d) (n * up d * down e)

-- a / b in steps of 2 ^ -24: rounded to a float, and cut
unfoldable pub ratio_of : Float → Float → ℕ
ratio_of a b =
    let q = a ⊘ b in
    cond (lt float.zero q) (steps_of q / 4) 0

-- 360, 180 and 90 degrees in steps of 2 ^ -16
abbrev pub full_turn : ℕ
full_turn = 23592960

abbrev pub half_turn : ℕ
half_turn = 11796480

abbrev pub quarter_turn : ℕ
quarter_turn = 5898240

-- 360 degrees more than the angle, where n steps have the tangent of the smaller size to the larger; the Bools say that y and that x is below 0.
-- Where |y| ≤ |x|: on from 0 or from 180 degrees, or back, and never at -180
abbrev pub flat_steps_of : Bool → Bool → ℕ → ℕ
flat_steps_of false false n = full_turn + n
flat_steps_of true false n = full_turn - n
flat_steps_of false true n = full_turn + half_turn - n
flat_steps_of true true zero = full_turn + half_turn
flat_steps_of true true (suc n) = full_turn - half_turn + suc n

-- Where |x| < |y|: on from 90 or from -90 degrees, or back
abbrev pub steep_steps_of : Bool → Bool → ℕ → ℕ
steep_steps_of false false n = full_turn + quarter_turn - n
steep_steps_of false true n = full_turn + quarter_turn + n
steep_steps_of true false n = full_turn - quarter_turn + n
steep_steps_of true true n = full_turn - quarter_turn - n

-- steps less 360 degrees, as a float
unfoldable pub degrees_of : ℕ → Float
degrees_of steps = cond (nat_lt steps full_turn) (neg (whole (full_turn - steps) ⊘ two_to16)) (whole (steps - full_turn) ⊘ two_to16)

-- from the larger of the two sizes
unfoldable pub bearing_of : Float → Float → Float
bearing_of y x =
    let down = lt y float.zero in
    let back = lt x float.zero in
    let ay = fabsf_of y in
    let ax = fabsf_of x in
    cond (lt ax ay) (degrees_of (steep_steps_of down back (octant_of (ratio_of ax ay))))
    (cond (lt float.zero ax) (degrees_of (flat_steps_of down back (octant_of (ratio_of ay ax)))) float.zero)

-- NaN where y or x is not finite
unfoldable pub angle_of : Float → Float → Float
angle_of y x = cond (finite y && finite x) (bearing_of y x) nan

-- ---- the theorem, proved in proofs/Angles

abbrev pub Angles : Type 0
Angles = (y x : Float) → T (finite y) → T (finite x) → Angled y x (angle_of y x)

-- zero's sign is ignored: proved in proofs/ZeroSign
abbrev pub ZeroSignIgnored : Type 0
ZeroSignIgnored = (y z x w : Float) → Same y z → Same x w → angle_of y x ≡ angle_of z w
