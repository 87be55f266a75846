-- Of an orientation whose components are at most 1024 in size, all that a heading asks for and makes is finite: the points whose angles are yaw and roll, and
-- the orientation turned to it. Assumes nothing.
use Prim.Native.Nat.{ℕ, ◌+◌, ◌*◌, ◌≤◌}
use native.Mathlib.Omega.{arith}
use mathlib.Core.Path.{◌≡◌, refl, ap₂}
use mathlib.Core.Bool.{true, ◌&&◌}
use lib.Dec.{T, lit≤, le→leb}
use lib.Ieee.{Float, of_bits}
use lib.Ieee.Scale.{finite}
use Rattle.number.specs.Float32.{◌⊖◌, ◌⊗◌, half}
use Rattle.number.proofs.AtMost.{AtMost, most_finite, neg_most, zero_most, sum_most, difference_most, product_most, half_most}
use Rattle.answer.proofs.Tests.{both}
use Rattle.trig.specs.Degrees.{in_turn}
use Rattle.trig.proofs.Waves.{is_so}
use Rattle.trig.proofs.InTurn.{turn_most, most_in_turn, angle_in_turn}
use Rattle.trig.proofs.Finite.{sin_most, cos_most}
use Rattle.math.specs.declared.quaternion.Quaternion.{Quaternion}
use Rattle.math.proofs.Small.{Small, more_small, small_finite, product_small}
use Rattle.heading.specs.declared.point.Point.{Point}
use Rattle.heading.specs.Turn.{finite_point, angle_at, yaw_of, roll_of, half_turn_of, headed_of}
use Rattle.heading.specs.Calls.{headable}

-- ---- the two points

half_most_one : AtMost 1 half
unfolding of_bits
half_most_one = record { within = lit≤ tt }

less_squares : {a b : Float} → AtMost 1024 a → AtMost 1024 b → AtMost 2097153 (half ⊖ a ⊗ a ⊖ b ⊗ b)
less_squares a b = difference_most (difference_most half_most_one (product_most a a tt) tt) (product_most b b tt) tt

module _ {q : Quaternion} (h : Small 1024 q) where
  yaw_finite : finite_point (yaw_of q) ≡ true
  unfolding finite_point yaw_of
  yaw_finite =
      ap₂ ◌&&◌ (most_finite (sum_most (product_most h.w h.z tt) (product_most h.x h.y tt) tt)) (most_finite (less_squares h.y h.z))

  pub roll_finite : finite_point (roll_of q) ≡ true
  unfolding finite_point roll_of
  roll_finite =
      ap₂ ◌&&◌ (most_finite (sum_most (product_most h.w h.x tt) (product_most h.y h.z tt) tt)) (most_finite (less_squares h.y h.x))

-- ---- half of what it has to turn by is in the range of the sine and the cosine

point_in_turn : (p : Point) → finite_point p ≡ true → T (in_turn (angle_at p))
unfolding finite_point
point_in_turn p f = let (y, x) = both (finite p.y) (finite p.x) f in angle_in_turn p.y p.x (is_so y) (is_so x)

half_in_turn : {q : Quaternion} → Small 1024 q → (heading : Float) → T (in_turn heading) → T (in_turn (half_turn_of q heading))
half_in_turn {q} h heading t =
    most_in_turn (half_most (difference_most (turn_most (point_in_turn (yaw_of q) (yaw_finite h))) (turn_most t) tt) tt)

-- ---- the orientation turned

pub headed_small
    : {n : ℕ} {q : Quaternion} → n ≤ 1024 → Small n q → (heading : Float) → T (in_turn heading) → Small (2 * n + 2 * n + 2 * n + 2 * n) (headed_of q heading)
unfolding headed_of of_bits
headed_small {n} {q} l h heading t =
    let turn = half_turn_of q heading in
    let in_turn_lem = half_in_turn (more_small l h) heading t in
    product_small (record { w = cos_most turn in_turn_lem; x = zero_most refl; y = zero_most refl; z = neg_most (sin_most turn in_turn_lem) }) h
    (le→leb (2 * n + 2 * n + 2 * n + 2 * n) 16777216 (omega arith))

pub small_headable : {q : Quaternion} → Small 1024 q → (heading : Float) → T (in_turn heading) → headable q heading ≡ true
unfolding headable
small_headable {q} h heading t = ap₂ ◌&&◌ (yaw_finite h) (small_finite (headed_small (lit≤ tt) h heading t))
