-- Where an angle that is n steps of 2 ^ -16 degrees from a multiple of 90 stands: its quarter, and how near the series there are. Assumes nothing.
use Rattle.std.proofs.Common.{◌≡◌, ℕ, ◌+◌, ◌*◌, ◌<◌, ◌≤◌, Bool, true, false, mul-le-mul_right, mul-lt-mul_of_pos_right, arith, le-ltb, lt-ltb}
use Rattle.trig.specs.Series.{sine_num, sine_den, cosine_num, cosine_den}
use Rattle.trig.specs.Degrees.{pi_top, pi_bottom, turns, left, left_minus}
use Rattle.trig.specs.Fixed.{one}
use Rattle.trig.specs.Wave.{radians_of}
use Rattle.trig.specs.Octant.{most, sine_step, cosine_step}
use Rattle.trig.specs.Angle.{quarter_turn}
use Rattle.trig.proofs.Around.{Around}
use Rattle.trig.proofs.Series.{sine_around, cosine_around}
use Rattle.trig.proofs.Reduce.{turns_is}
use Rattle.trig.proofs.Quarter.{radians_around, at_most_one, radians_small}

-- y / b is j * 90 degrees and n steps more, or less where minus is true
pub record Placed (y b j n : ℕ) (minus : Bool) : Type 0 where
  pub at : turns y b ≡ j
  pub size : left y b * 65536 ≡ n * b
  pub sign : left_minus y b ≡ minus

module _ (y b j n : ℕ) (B : 0 < b) where
  pub placed_more : y * 65536 ≡ (j * quarter_turn + n) * b → n ≤ most → Placed y b j n false
  unfolding left left_minus
  placed_more e h =
      let s : n * b ≤ most * b = mul-le-mul_right b h in
      let a : turns y b ≡ j = turns_is y b j B (omega arith) (omega arith) in
      record { at = a; size = rw a (omega arith); sign = rw a (le-ltb y (j * (90 * b)) (omega arith)) }

  pub placed_less : (y * 65536 + n * b ≡ j * quarter_turn * b) → 0 < n → n < most → Placed y b j n true
  unfolding left left_minus
  placed_less e N h =
      let s : n * b < most * b = mul-lt-mul_of_pos_right h B in
      let t : 0 * b < n * b = mul-lt-mul_of_pos_right N B in
      let a : turns y b ≡ j = turns_is y b j B (omega arith) (omega arith) in
      record { at = a; size = rw a (omega arith); sign = rw a (lt-ltb y (j * (90 * b)) (omega arith)) }

module _ (y b j n : ℕ) (minus : Bool) (B : 0 < b) (small : n ≤ most) (p : Placed y b j n minus) where
  left_le : left y b ≤ 45 * b
  left_le =
      let s : n * b ≤ most * b = mul-le-mul_right b small in
      omega (arith, p.size)

  near : Around one 2 (radians_of (n * 1024)) (left y b * pi_top) (b * (180 * pi_bottom))
  near = radians_around (n * 1024) (left y b) b (omega (arith, p.size)) (omega (arith, p.size)) left_le

  pub radians_le : left y b * pi_top ≤ b * (180 * pi_bottom)
  radians_le = at_most_one (n * 1024) (left y b) b (omega (arith, p.size)) (omega (arith, p.size)) left_le

  pub sine_placed : Around one 6 (sine_step n) (sine_num (left y b * pi_top) (b * (180 * pi_bottom))) (sine_den (b * (180 * pi_bottom)))
  unfolding sine_step
  sine_placed = sine_around (radians_of (n * 1024)) _ _ near radians_le (radians_small (n * 1024) (omega arith))

  pub cosine_placed : Around one 5 (cosine_step n) (cosine_num (left y b * pi_top) (b * (180 * pi_bottom))) (cosine_den (b * (180 * pi_bottom)))
  unfolding cosine_step
  cosine_placed = cosine_around (radians_of (n * 1024)) _ _ near radians_le (radians_small (n * 1024) (omega arith))
