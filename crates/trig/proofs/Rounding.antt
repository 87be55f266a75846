-- Whole numbers over powers of two are exact floats; and a fraction of at most 1 that is near n / 2 ^ 30 is still near it when it is rounded. Assumes nothing.
use Rattle.std.proofs.Common.{◌≡◌, ℕ, ◌+◌, ◌-◌, ◌*◌, ◌/◌, ◌%◌, ◌^◌, ◌<◌, ◌≤◌, Bool, true, false, ◌⊎◌, pos, sym, refl, ap, ◌∙◌, subst, inl, inr, true≢false}
use Rattle.std.proofs.Common.{lt_of_lt_of_le, lt_of_le_of_lt, mul-le-mul_right, mul_assoc, eq-or-lt_of_le, mul-pos, one-mul, le_of_mul-le-mul_right, arith}
use Rattle.std.proofs.Common.{lit<, lit≤, pow_pos, pow_mono, pow-add, shl_lt}
use lib.Pow.{pow-lt}
use lib.Ieee.{Float, nan, inf, fin, binary32, up, down, round, add, sum, div, neg, of_int, of_bits}
use lib.Ieee.Exact.{HasValue, round_exact, units_val}
use lib.Ieee.Back.{round_whole}
use lib.Ieee.Fits.{down_pos, round_is}
use lib.Ieee.Order.{drop, kept}
use lib.Ieee.Scale.{grid, overflow, round_same}
use Rattle.number.proofs.Rounding as rounding
use Rattle.trig.specs.Fixed.{one}
use Rattle.trig.specs.Wave.{whole, float_of}

-- ---- n / 2 ^ k, exactly

module _ (k n : ℕ) (K : k ≤ 120) (h : n ≤ 16777216) where
  j : ℕ
  j = 149 - k

  parts : 2 ^ j * 2 ^ k ≡ 2 ^ 149
  unfolding j
  parts = let g : 149 - k + k ≡ 149 = omega arith in sym (pow-add 2 (149 - k) k) ∙ ap (λ (z : ℕ). 2 ^ z) g

  scaled : n * 2 ^ 149 ≡ n * 2 ^ j * 2 ^ k
  scaled = ap (λ (z : ℕ). n * z) (sym parts) ∙ sym (mul_assoc n (2 ^ j) (2 ^ k))

  pub rounded_power : HasValue (round binary32 false n (2 ^ k)) false n (2 ^ k)
  unfolding j
  rounded_power = go (eq-or-lt_of_le h)
    where
      go : (n ≡ 2 ^ 24) ⊎ (n < 2 ^ 24) → HasValue (round binary32 false n (2 ^ k)) false n (2 ^ k)
      go (inl e) =
          round_exact binary32 false n (2 ^ k) 1 (24 + j) (pow_pos k) (lit< tt)
          (rw (one-mul (2 ^ (24 + j))) (pow-lt {i = 24 + j} {j = 277} (omega arith))) (scaled ∙ rw (e, ← pow-add 2 24 j, one-mul (2 ^ (24 + j))))
      go (inr l) =
          round_exact binary32 false n (2 ^ k) n j (pow_pos k) l (lt_of_lt_of_le (shl_lt 24 j l) (pow_mono {i = 24 + j} {j = 277} (omega arith))) scaled

  quotient : (x : Float) → HasValue x false n 1 → HasValue (div binary32 x (fin false 1 (pos k))) false n (2 ^ k)
  unfolding div
  quotient nan v = absurd v
  quotient (inf s) v = absurd v
  quotient (fin true m e) v = absurd (true≢false v.0)
  quotient (fin false m e) v =
      let p : m * up e * 1 * 2 ^ k ≡ n * (1 * 2 ^ k * down e) = omega (arith, ap (λ (z : ℕ). z * 2 ^ k) v.1) in
      subst (λ (x : Float). HasValue x false n (2 ^ k))
      (sym (round_same binary32 false (m * up e * 1) (1 * 2 ^ k * down e) n (2 ^ k) (mul-pos (mul-pos (lit< tt) (pow_pos k)) (down_pos e)) (pow_pos k) p))
      rounded_power

  pub over_power : HasValue (div binary32 (whole n) (fin false 1 (pos k))) false n (2 ^ k)
  unfolding of_int
  over_power = quotient (round binary32 false n 1) (round_whole binary32 false n h)

-- ---- a rounded fraction

-- x is finite, has the sign s, and is within 96 / 2 ^ 30 of n / 2 ^ 30 in size
abbrev pub Rounded : Float → Bool → ℕ → Type 0
Rounded nan s n = ⊥
Rounded (inf t) s n = ⊥
Rounded (fin t m e) s n = (t ≡ s) × ((m * up e * one ≤ (n + 96) * down e) × (n * down e ≤ m * up e * one + 96 * down e))

-- a / c is at most 1, and within 31 units of n
pub record Before (a c n : ℕ) : Type 0 where
  pub positive : 0 < c
  pub small : a ≤ c
  pub over : a * one ≤ (n + 31) * c
  pub under : n * c ≤ a * one + 31 * c

-- The rounding is off by at most 64 units of a / c and half of the smallest f32, 1 / u: g / u is a / c rounded, and m / d is g / u.
module _ (u : ℕ) (U : 536870912 ≤ u) (a c n g m d : ℕ) (b : Before a c n) (D : 0 < d) (same : m * u ≡ g * d) where
  bottom : 0 < u * c
  bottom = mul-pos (omega arith) b.positive

  gd : g * d * c ≡ m * u * c
  gd = ap (λ (z : ℕ). z * c) (sym same)

  few : 536870912 * (c * d) ≤ u * (c * d)
  few = mul-le-mul_right (c * d) U

  most : a * (u * d) ≤ c * (u * d)
  most = mul-le-mul_right (u * d) b.small

  over : 16777216 * (g * c) ≤ 16777217 * (a * u) + 8388608 * c → m * one ≤ (n + 96) * d
  over h =
      let p = mul-le-mul_right d h in
      let q = mul-le-mul_right (u * d) b.over in
      le_of_mul-le-mul_right {k = u * c} (omega (arith, gd, few, most)) bottom

  under : 16777215 * (a * u) ≤ 16777216 * (g * c) + 8388608 * c → n * d ≤ m * one + 96 * d
  under h =
      let p = mul-le-mul_right d h in
      let q = mul-le-mul_right (u * d) b.under in
      le_of_mul-le-mul_right {k = u * c} (omega (arith, gd, few, most)) bottom

-- no overflow
fits_in : (a c : ℕ) → 0 < c → a ≤ c → grid binary32 a c < overflow binary32
fits_in a c C h = let r = rounding.rounded a c C in lt_of_le_of_lt (most (grid binary32 a c) (2 ^ 149) r.over (lit≤ tt)) (lit< tt)
  where
    most : (g u : ℕ) → 16777216 * (g * c) ≤ 16777217 * (a * u) + 8388608 * c → 1 ≤ u → g ≤ 3 * u
    most g u p U =
        let q = mul-le-mul_right u h in
        let k : 1 * c ≤ u * c = mul-le-mul_right c U in
        le_of_mul-le-mul_right {k = c} (omega arith) C

pub rounds : (s : Bool) (a c n : ℕ) → Before a c n → Rounded (round binary32 s a c) s n
rounds s a c n b =
    let r = rounding.rounded a c b.positive in
    by_value (round binary32 s a c) (grid binary32 a c)
    (subst (λ (z : Float). HasValue z s (grid binary32 a c) (2 ^ 149)) (sym (round_is binary32 s a c))
    (units_val binary32 s (kept 24 (a * 2 ^ 149) c) (drop 24 (a * 2 ^ 149) c) (fits_in a c b.positive b.small)))
    r.over r.under
  where
    by_value : (x : Float) (g : ℕ) → HasValue x s g (2 ^ 149) → 16777216 * (g * c) ≤ 16777217 * (a * 2 ^ 149) + 8388608 * c
        → 16777215 * (a * 2 ^ 149) ≤ 16777216 * (g * c) + 8388608 * c → Rounded x s n
    by_value nan g v p q = absurd v
    by_value (inf t) g v p q = absurd v
    by_value (fin t m e) g v p q =
        let above = over (2 ^ 149) (lit≤ tt) a c n g (m * up e) (down e) b (down_pos e) v.1 p in
        let below = under (2 ^ 149) (lit≤ tt) a c n g (m * up e) (down e) b (down_pos e) v.1 q in
        (v.0, (above, below))

-- ---- `float_of`: the two parts of a size are exact, and their sum is rounded

sum_exact : (x y : Float) (a b n : ℕ) → HasValue x false a 16777216 → HasValue y false b one → a * 64 + b ≡ n → add binary32 x y ≡ round binary32 false n one
unfolding add sum
sum_exact nan y a b n v w s = absurd v
sum_exact (inf t) y a b n v w s = absurd v
sum_exact (fin true m e) y a b n v w s = absurd (true≢false v.0)
sum_exact (fin false m e) nan a b n v w s = absurd w
sum_exact (fin false m e) (inf t) a b n v w s = absurd w
sum_exact (fin false m e) (fin true k d) a b n v w s = absurd (true≢false w.0)
sum_exact (fin false m e) (fin false k d) a b n v w s =
    let p : m * up e * 16777216 * down d ≡ a * down e * down d = ap (λ (z : ℕ). z * down d) v.1 in
    let q : k * up d * one * down e ≡ b * down d * down e = ap (λ (z : ℕ). z * down e) w.1 in
    let r : (a * 64 + b) * (down e * down d) ≡ n * (down e * down d) = ap (λ (z : ℕ). z * (down e * down d)) s in
    round_same binary32 false (m * up e * down d + k * up d * down e) (down e * down d) n one (mul-pos (down_pos e) (down_pos d)) (lit< tt) (omega arith)

neg_rounded : (x : Float) (n : ℕ) → Rounded x false n → Rounded (neg x) true n
unfolding neg
neg_rounded nan n v = absurd v
neg_rounded (inf s) n v = absurd v
neg_rounded (fin true m e) n v = absurd (true≢false v.0)
neg_rounded (fin false m e) n v = (refl, v.1)

pub float_rounded : (minus : Bool) (n : ℕ) → n ≤ one → Rounded (float_of minus n) minus n
unfolding float_of of_bits
float_rounded minus n h = go minus
  where
    sum_rounded : Rounded (add binary32 (div binary32 (whole (n / 64)) (fin false 1 (pos 24))) (div binary32 (whole (n % 64)) (fin false 1 (pos 30)))) false n
    sum_rounded =
        rw (sum_exact _ _ (n / 64) (n % 64) n (over_power 24 (n / 64) (lit≤ tt) (omega arith)) (over_power 30 (n % 64) (lit≤ tt) (omega arith)) (omega arith))
        (rounds false n one n (record { positive = lit< tt; small = h; over = omega arith; under = omega arith }))

    go : (b : Bool) → Rounded (float_of b n) b n
    go true = neg_rounded _ n sum_rounded
    go false = sum_rounded
