-- So many steps less 360 degrees, as a float: exact, above -180 and at most 180, and where it stands 360 degrees on. Assumes nothing.
use Rattle.std.proofs.Common.{◌≡◌, ℕ, zero, suc, ◌+◌, ◌-◌, ◌*◌, ◌<◌, ◌≤◌, Bool, true, false, cond, ◌&&◌, T, ltb, ℤ, pos, sym, refl, ap, true≢false}
use Rattle.std.proofs.Common.{mul-le-mul_right, arith, lit≤, lt→ltb, ltb-false, ltb-true}
use lib.Ieee.{Float, nan, inf, fin, binary32, of_bits, up, down, neg, div, lt, le, eq}
use lib.Ieee.Exact.{HasValue}
use lib.Ieee.Fits.{and_i, down_pos}
use Rattle.trig.specs.Degrees.{apart, lifted}
use Rattle.trig.specs.Wave.{whole}
use Rattle.trig.specs.Octant.{most}
use Rattle.trig.specs.Angle.{straight, full_turn, half_turn, flat_steps_of, steep_steps_of, degrees_of}
use Rattle.trig.proofs.Rounding.{over_power}
use Rattle.trig.proofs.Ratios.{or_l, le_either}

-- from -180, left out, to 180 degrees, 360 degrees more
abbrev pub Inside : ℕ → Type 0
Inside steps = (full_turn - half_turn < steps) × (steps ≤ full_turn + half_turn)

pub flat_inside : (down back : Bool) (n : ℕ) → n ≤ most → Inside (flat_steps_of down back n)
flat_inside false false n h = (omega arith, omega arith)
flat_inside true false n h = (omega arith, omega arith)
flat_inside false true n h = (omega arith, omega arith)
flat_inside true true zero h = (omega arith, omega arith)
flat_inside true true (suc n) h = (omega arith, omega arith)

pub steep_inside : (down back : Bool) (n : ℕ) → n ≤ most → Inside (steep_steps_of down back n)
steep_inside false false n h = (omega arith, omega arith)
steep_inside true false n h = (omega arith, omega arith)
steep_inside false true n h = (omega arith, omega arith)
steep_inside true true n h = (omega arith, omega arith)

-- ---- its value

neg_value : (x : Float) (n d : ℕ) → HasValue x false n d → HasValue (neg x) true n d
unfolding neg
neg_value nan n d v = absurd v
neg_value (inf s) n d v = absurd v
neg_value (fin true m e) n d v = absurd (true≢false v.0)
neg_value (fin false m e) n d v = (refl, v.1)

-- r is steps less 360 degrees
abbrev pub Stands : ℕ → Float → Type 0
Stands steps r = HasValue r (ltb steps full_turn) (apart steps full_turn) 65536

abbrev over : ℕ → Float
over n = div binary32 (whole n) (fin false 1 (pos 16))

pub degrees_stands : (steps : ℕ) → Inside steps → Stands steps (degrees_of steps)
unfolding degrees_of of_bits
degrees_stands steps i = by_test (ltb steps full_turn) refl
  where
    by_test : (b : Bool) → ltb steps full_turn ≡ b
        → HasValue (cond b (neg (over (full_turn - steps))) (over (steps - full_turn))) b (apart steps full_turn) 65536
    by_test true h =
        let l = ltb-true steps full_turn h in
        let e : apart steps full_turn ≡ full_turn - steps = omega arith in
        rw e (neg_value (over (full_turn - steps)) (full_turn - steps) 65536 (over_power 16 (full_turn - steps) (lit≤ tt) (omega arith)))
    by_test false h =
        let l = ltb-false steps full_turn h in
        let e : apart steps full_turn ≡ steps - full_turn = omega arith in
        rw e (over_power 16 (steps - full_turn) (lit≤ tt) (omega arith))

-- ---- its range, and where it stands

module _ (steps o : ℕ) (i : ℤ) (inside : Inside steps) (v : o * up i * 65536 ≡ apart steps full_turn * down i) where
  size_less : steps < full_turn → o * up i < 180 * down i
  size_less l =
      let a : apart steps full_turn ≤ half_turn - 1 = omega arith in
      omega (arith, down_pos i, mul-le-mul_right (down i) a)

  size_most : full_turn ≤ steps → o * up i ≤ 180 * down i
  size_most l =
      let a : apart steps full_turn ≤ half_turn = omega arith in
      omega (arith, mul-le-mul_right (down i) a)

  pub in_range : (u : Bool) → u ≡ ltb steps full_turn → T (lt (neg straight) (fin u o i) && le (fin u o i) straight)
  unfolding lt le eq of_bits neg
  in_range true e =
      let l = size_less (ltb-true steps full_turn (sym e)) in
      and_i (lt (fin true 45 (pos 2)) (fin true o i)) (le (fin true o i) (fin false 45 (pos 2)))
      (lt→ltb (o * up i * 1) (180 * down i) (omega arith))
      (or_l (ltb 0 (o * up i * 1 + 180 * down i)) (eq (fin true o i) (fin false 45 (pos 2)))
      (lt→ltb 0 (o * up i * 1 + 180 * down i) (omega (arith, down_pos i))))
  in_range false e =
      let l = size_most (ltb-false steps full_turn (sym e)) in
      and_i (lt (fin true 45 (pos 2)) (fin false o i)) (le (fin false o i) (fin false 45 (pos 2)))
      (lt→ltb 0 (180 * down i + o * up i * 1) (omega (arith, down_pos i)))
      (le_either (o * up i * 1) (180 * down i) (omega arith))

pub lifted_steps : (u : Bool) (m steps b : ℕ) → u ≡ ltb steps full_turn → m * 65536 ≡ apart steps full_turn * b → lifted u m b * 65536 ≡ steps * b
lifted_steps true m steps b e h =
    let l = ltb-true steps full_turn (sym e) in
    let s : apart steps full_turn + steps ≡ full_turn = omega arith in
    omega (arith, ap (λ (z : ℕ). z * b) s)
lifted_steps false m steps b e h =
    let l = ltb-false steps full_turn (sym e) in
    let s : apart steps full_turn + full_turn ≡ steps = omega arith in
    omega (arith, ap (λ (z : ℕ). z * b) s)
