-- The squared limit of every angle in the range is finite and not below 0: the sine is at most 1, but for its rounding. Assumes nothing.
use Rattle.std.proofs.Common.{◌≡◌, ℕ, ◌+◌, ◌*◌, ◌/◌, ◌<◌, ◌≤◌, Bool, true, false, cond, T, ◌⊎◌, sym, refl, inl, inr, true≢false, le_trans, le_refl}
use Rattle.std.proofs.Common.{mul-le-mul_right, mul-le-mul, mul-pos, div-mul-le_self, le_of_mul-le-mul_right, arith, lit<, lit≤, le-ltb}
use native.Mathlib.Nat.{lt-div-mul-add}
use lib.Ieee.{Float, nan, inf, fin, binary32, of_bits, up, down, unlike, round, mul, lt, eq}
use lib.Ieee.Bits.{is_true}
use lib.Ieee.Fits.{down_pos}
use lib.Ieee.Scale.{finite}
use Rattle.number.specs.Float32 as float
use Rattle.number.specs.Same.{fabsf_of}
use Rattle.trig.specs.Degrees.{in_turn}
use Rattle.trig.specs.Fixed.{one, slope, per_degree_of}
use Rattle.trig.specs.Wave.{grid_of, rest_of, size_of, minus_of, rounded_of, slope_of, sin_of}
use Rattle.trig.specs.Limit.{rejection_threshold_of, Limited}
use Rattle.trig.proofs.Quarter.{size_small}
use Rattle.trig.proofs.Rounding.{Rounded, rounds, float_rounded}
use Rattle.trig.proofs.Slope.{slope_small}
use Rattle.trig.proofs.Small.{sloped, below_one}

-- x is finite, has the sign s, and is at most k / 2 ^ 30 in size
abbrev Bounded : Bool → ℕ → Float → Type 0
Bounded s k nan = ⊥
Bounded s k (inf t) = ⊥
Bounded s k (fin t m e) = (t ≡ s) × (m * up e * one ≤ k * down e)

by_rounding : (s : Bool) (n k : ℕ) → n ≤ k → (x : Float) → Rounded x s n → Bounded s (k + 96) x
by_rounding s n k h nan r = absurd r
by_rounding s n k h (inf t) r = absurd r
by_rounding s n k h (fin t m e) r = (r.0, omega (arith, r.1.0, mul-le-mul_right (down e) h))

-- a / c, at most l units of 2 ^ -30, is at most 96 more when it is rounded
quotient : (s : Bool) (a c l : ℕ) → 0 < c → l ≤ one → a * one ≤ l * c → Bounded s (l + 96) (round binary32 s a c)
quotient s a c l C L h =
    let n : ℕ = a * one / c in
    by_rounding s n l (le_of_mul-le-mul_right {k = c} (le_trans (div-mul-le_self (a * one) c) h) C) (round binary32 s a c)
    (rounds s a c n
    (record {
      positive = C;
      small = le_of_mul-le-mul_right {k = one} (omega (arith, mul-le-mul_right c L)) (lit< tt);
      over = omega (arith, lt-div-mul-add {a = a * one} {b = c} C);
      under = omega (arith, div-mul-le_self (a * one) c);
    }))

-- so is a product of floats
module _ (j k l : ℕ) (room : j * k ≤ l * one) (L : l ≤ one) where
  over : (m d n b : ℕ) → m * one ≤ j * d → n * one ≤ k * b → m * n * one ≤ l * (d * b)
  over m d n b p q =
      let s : m * one * (n * one) ≤ j * d * (k * b) = mul-le-mul p q in
      le_of_mul-le-mul_right {k = one} (omega (arith, mul-le-mul_right (d * b) room)) (lit< tt)

  product : (s t : Bool) (x y : Float) → Bounded s j x → Bounded t k y → Bounded (unlike s t) (l + 96) (mul binary32 x y)
  unfolding mul
  product s t nan y p q = absurd p
  product s t (inf i) y p q = absurd p
  product s t (fin i m e) nan p q = absurd q
  product s t (fin i m e) (inf o) p q = absurd q
  product s t (fin i m e) (fin o n d) p q =
      rw (p.0, q.0)
      (quotient (unlike s t) (m * up e * (n * up d)) (down e * down d) l (mul-pos (down_pos e) (down_pos d)) L
      (over (m * up e) (down e) (n * up d) (down d) p.1 q.1))

-- ---- the sine

-- of one sign or the other
abbrev pub Within : ℕ → Float → Type 0
Within k x = Bounded true k x ⊎ Bounded false k x

wide : (s : Bool) (k : ℕ) (x : Float) → Bounded s k x → Within k x
wide true k x b = inl b
wide false k x b = inr b

-- below a degree
small_within : (x : Float) → lt (fabsf_of x) float.one ≡ true → Within (one + 96) (mul binary32 x (slope_of x))
unfolding lt fabsf_of of_bits
small_within nan h = absurd (true≢false (sym h))
small_within (inf s) h = absurd (true≢false (sym h))
small_within (fin s m e) h =
    let p : ℕ = per_degree_of (rest_of (grid_of (fin s m e))) in
    let l : m * up e * p ≤ down e * slope = mul-le-mul (below_one m e h) (slope_small (rest_of (grid_of (fin s m e)))) in
    wide s (one + 96) (mul binary32 (fin s m e) (slope_of (fin s m e)))
    (rw (sloped s m e) (quotient s (m * up e * p) (down e * 536870912) one (mul-pos (down_pos e) (lit< tt)) (le_refl one) (omega arith)))

pub sine_within : (x : Float) → T (in_turn x) → Within (one + 96) (sin_of x)
unfolding sin_of
sine_within x t = rw (is_true (in_turn x) t) (go (lt (fabsf_of x) float.one) refl)
  where
    go : (b : Bool) → lt (fabsf_of x) float.one ≡ b → Within (one + 96) (cond b (mul binary32 x (slope_of x)) (rounded_of 0 x))
    go true h = small_within x h
    go false h =
        let r : ℕ = grid_of x in
        wide (minus_of 0 r) (one + 96) (rounded_of 0 x)
        (by_rounding (minus_of 0 r) (size_of 0 r) one (size_small 0 r) (rounded_of 0 x) (float_rounded (minus_of 0 r) (size_of 0 r) (size_small 0 r)))

-- ---- half of it, squared

halved : (s : Bool) (x : Float) → Bounded s (one + 96) x → Bounded s 536871056 (mul binary32 float.half x)
unfolding of_bits
halved true x b = product 536870912 (one + 96) 536870960 (lit≤ tt) (lit≤ tt) false true float.half x (refl, lit≤ tt) b
halved false x b = product 536870912 (one + 96) 536870960 (lit≤ tt) (lit≤ tt) false false float.half x (refl, lit≤ tt) b

squared : (s : Bool) (x : Float) → Bounded s 536871056 x → Bounded false (one + 96) (mul binary32 x x)
squared true x b = product 536871056 536871056 one (lit≤ tt) (lit≤ tt) true true x x b b
squared false x b = product 536871056 536871056 one (lit≤ tt) (lit≤ tt) false false x x b b

Sound : Float → Type 0
Sound x = (finite x ≡ true) × (lt x float.zero ≡ false)

not_below : (k : ℕ) (x : Float) → Bounded false k x → Sound x
unfolding Sound lt of_bits
not_below k nan b = absurd b
not_below k (inf s) b = absurd b
not_below k (fin true m e) b = absurd (true≢false b.0)
not_below k (fin false m e) b = (refl, le-ltb (m * up e * 1) (0 * 1 * down e) (omega arith))

of_sine : (x : Float) → Within (one + 96) x → Sound (mul binary32 (mul binary32 float.half x) (mul binary32 float.half x))
of_sine x (inl b) = not_below (one + 96) _ (squared true _ (halved true x b))
of_sine x (inr b) = not_below (one + 96) _ (squared false _ (halved false x b))

pub limited : Limited
unfolding rejection_threshold_of Sound lt of_bits
limited x t = go (eq x float.zero)
  where
    go : (b : Bool) → Sound (cond b float.largest (mul binary32 (mul binary32 float.half (sin_of x)) (mul binary32 float.half (sin_of x))))
    go true = (refl, refl)
    go false = of_sine (sin_of x) (sine_within x t)
