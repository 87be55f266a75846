-- The theorem of the angle: its range, and the case of `Eight` that the signs and the sizes of y and x choose. Assumes nothing.
use Rattle.std.proofs.Common.{◌≡◌, ℕ, ◌*◌, ◌<◌, ◌≤◌, Bool, true, false, cond, ◌&&◌, T, ℤ, refl, le_of_lt, mul-pos}
use lib.Ieee.{Float, nan, inf, fin, up, down, neg, lt, le}
use lib.Ieee.Bits.{is_true}
use lib.Ieee.Fits.{and_i, down_pos}
use lib.Ieee.Positive.{num, den}
use lib.Ieee.Scale.{finite}
use Rattle.number.specs.Float32 as float
use Rattle.number.specs.Same.{fabsf_of}
use Rattle.trig.specs.Degrees.{lifted, wave_of, wave_at}
use Rattle.trig.specs.Octant.{octant_of}
use Rattle.trig.specs.Angle.{turns_to, straight, is_angle, Angled, nowhere, toward}
use Rattle.trig.specs.Angle.{ordered, ratio_of, flat_steps_of, steep_steps_of, degrees_of, bearing_of, angle_of, Angles}
use Rattle.trig.proofs.Octants.{Level}
use Rattle.trig.proofs.Levels.{octant_level}
use Rattle.trig.proofs.Eight.{flat_case, steep_case}
use Rattle.trig.proofs.Ratios.{Ratio, ratio_gives}
use Rattle.trig.proofs.Lifted.{Inside, Stands, flat_inside, steep_inside, degrees_stands, in_range, lifted_steps}
use Rattle.trig.proofs.Sizes.{sign_sure, sign_over, less_size, not_less_size, ordered_sizes, larger_above, size_above, size_none, smaller_none}

-- ---- y = fin t n d and x = fin s m e; fin u o i is the answer, of k steps from a quarter turn

module _ (t : Bool) (n : ℕ) (d : ℤ) (s : Bool) (m : ℕ) (e : ℤ) (u : Bool) (o : ℕ) (i : ℤ) (p k : ℕ) (level : Level p k) where
  abbrev y : Float
  y = fin t n d

  abbrev x : Float
  x = fin s m e

  abbrev r : Float
  r = fin u o i

  abbrev at : ℕ
  at = lifted u (o * up i) (down i)

  both : (steps : ℕ) → Inside steps → Stands steps r
      → T (turns_to t (num y * den x) s (num x * den y) (wave_of 0 at (down i)) (wave_of 1 at (down i))) → T (is_angle y x r)
  unfolding is_angle wave_at
  both steps inside v h =
      and_i (lt (neg straight) r && le r straight) (turns_to t (num y * den x) s (num x * den y) (wave_of 0 at (down i)) (wave_of 1 at (down i)))
      (in_range steps o i inside v.1 u v.0) h

  flat_finite : Stands (flat_steps_of (lt y float.zero) (lt x float.zero) k) r → Ratio (fin false n d) (fin false m e) p → 0 < num x
      → num y * den x ≤ num x * den y → T (is_angle y x r)
  flat_finite v q X l =
      both _ (flat_inside (lt y float.zero) (lt x float.zero) k level.small) v
      (flat_case at (down i) p t s (num y * den x) (num x * den y) (down_pos i) q.small (lt y float.zero) (lt x float.zero) k level.small level
      (lifted_steps u (o * up i) _ (down i) v.0 v.1) (sign_sure s m e X) (sign_over t n d (down e)) l (mul-pos X (down_pos d)) q.over q.under)

  steep_finite : Stands (steep_steps_of (lt y float.zero) (lt x float.zero) k) r → Ratio (fin false m e) (fin false n d) p → 0 < num y
      → num x * den y ≤ num y * den x → T (is_angle y x r)
  steep_finite v q Y l =
      both _ (steep_inside (lt y float.zero) (lt x float.zero) k level.small) v
      (steep_case at (down i) p t s (num y * den x) (num x * den y) (down_pos i) q.small (lt y float.zero) (lt x float.zero) k level.small level
      (lifted_steps u (o * up i) _ (down i) v.0 v.1) (sign_sure t n d Y) (sign_over s m e (down d)) l (mul-pos Y (down_pos e)) q.over q.under)

-- ---- of any y and x that are finite

module _ (p k : ℕ) (level : Level p k) where
  flat_angle : (y x r : Float) → T (finite y) → T (finite x) → Stands (flat_steps_of (lt y float.zero) (lt x float.zero) k) r
      → Ratio (fabsf_of y) (fabsf_of x) p
      → 0 < num x → num y * den x ≤ num x * den y → T (is_angle y x r)
  unfolding fabsf_of
  flat_angle nan x r f g v q a b = absurd f
  flat_angle (inf t) x r f g v q a b = absurd f
  flat_angle (fin t n d) nan r f g v q a b = absurd g
  flat_angle (fin t n d) (inf s) r f g v q a b = absurd g
  flat_angle (fin t n d) (fin s m e) nan f g v q a b = absurd v
  flat_angle (fin t n d) (fin s m e) (inf u) f g v q a b = absurd v
  flat_angle (fin t n d) (fin s m e) (fin u o i) f g v q a b = flat_finite t n d s m e u o i p k level v q a b

  steep_angle : (y x r : Float) → T (finite y) → T (finite x) → Stands (steep_steps_of (lt y float.zero) (lt x float.zero) k) r
      → Ratio (fabsf_of x) (fabsf_of y) p
      → 0 < num y → num x * den y ≤ num y * den x → T (is_angle y x r)
  unfolding fabsf_of
  steep_angle nan x r f g v q a b = absurd f
  steep_angle (inf t) x r f g v q a b = absurd f
  steep_angle (fin t n d) nan r f g v q a b = absurd g
  steep_angle (fin t n d) (inf s) r f g v q a b = absurd g
  steep_angle (fin t n d) (fin s m e) nan f g v q a b = absurd v
  steep_angle (fin t n d) (fin s m e) (inf u) f g v q a b = absurd v
  steep_angle (fin t n d) (fin s m e) (fin u o i) f g v q a b = steep_finite t n d s m e u o i p k level v q a b

-- ---- by the tests

module _ (y x : Float) (fy : T (finite y)) (fx : T (finite x)) where
  pub steep_asks : lt (fabsf_of x) (fabsf_of y) ≡ true → T (ordered (fabsf_of x) (fabsf_of y))
  steep_asks h = let l = less_size x y fx fy h in ordered_sizes x y fx fy (larger_above x y l) (le_of_lt l)

  pub flat_asks : lt (fabsf_of x) (fabsf_of y) ≡ false → lt float.zero (fabsf_of x) ≡ true → T (ordered (fabsf_of y) (fabsf_of x))
  flat_asks h i = ordered_sizes y x fy fx (size_above x fx i) (not_less_size x y fx fy h)

  abbrev downward : Bool
  downward = lt y float.zero

  abbrev backward : Bool
  backward = lt x float.zero

  abbrev steep_degrees : Float
  steep_degrees = degrees_of (steep_steps_of downward backward (octant_of (ratio_of (fabsf_of x) (fabsf_of y))))

  abbrev flat_degrees : Float
  flat_degrees = degrees_of (flat_steps_of downward backward (octant_of (ratio_of (fabsf_of y) (fabsf_of x))))

  steep : lt (fabsf_of x) (fabsf_of y) ≡ true → Angled y x steep_degrees
  steep h =
      let l = less_size x y fx fy h in
      let q = ratio_gives (fabsf_of x) (fabsf_of y) (steep_asks h) in
      let k = octant_level (ratio_of (fabsf_of x) (fabsf_of y)) q.small in
      toward (steep_angle _ _ k y x _ fy fx (degrees_stands _ (steep_inside downward backward _ k.small)) q (larger_above x y l) (le_of_lt l))

  flat : lt (fabsf_of x) (fabsf_of y) ≡ false → lt float.zero (fabsf_of x) ≡ true → Angled y x flat_degrees
  flat h i =
      let q = ratio_gives (fabsf_of y) (fabsf_of x) (flat_asks h i) in
      let k = octant_level (ratio_of (fabsf_of y) (fabsf_of x)) q.small in
      toward (flat_angle _ _ k y x _ fy fx (degrees_stands _ (flat_inside downward backward _ k.small)) q (size_above x fx i) (not_less_size x y fx fy h))

  none : lt (fabsf_of x) (fabsf_of y) ≡ false → lt float.zero (fabsf_of x) ≡ false → Angled y x float.zero
  none h i = let z = size_none x fx i in nowhere (smaller_none x y (not_less_size x y fx fy h) z) z refl

  bearing_angled : Angled y x (bearing_of y x)
  unfolding bearing_of
  bearing_angled = by_size (lt (fabsf_of x) (fabsf_of y)) refl
    where
      by_zero : lt (fabsf_of x) (fabsf_of y) ≡ false → (b : Bool) → lt float.zero (fabsf_of x) ≡ b → Angled y x (cond b flat_degrees float.zero)
      by_zero h true i = flat h i
      by_zero h false i = none h i

      by_size : (b : Bool) → lt (fabsf_of x) (fabsf_of y) ≡ b → Angled y x (cond b steep_degrees (cond (lt float.zero (fabsf_of x)) flat_degrees float.zero))
      by_size true h = steep h
      by_size false h = by_zero h (lt float.zero (fabsf_of x)) refl

pub angles : Angles
unfolding angle_of
angles y x fy fx = rw (is_true (finite y) fy, is_true (finite x) fx) (bearing_angled y x fy fx)
