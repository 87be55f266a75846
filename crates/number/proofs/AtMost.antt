-- A number of a size at most n, a whole number, and what is made of such numbers: rounding keeps the order, and a whole number of up to 2 ^ 24 is an f32,
-- so that a sum, a difference and a product are at most those of the bounds, and so finite. Assumes nothing.
use Rattle.std.proofs.Common.{◌≡◌, ℕ, zero, suc, ◌+◌, ◌-◌, ◌*◌, ◌^◌, ◌<◌, ◌≤◌, Bool, true, false, cond, not, T, ltb, leb, sym, refl, subst, true≢false}
use Rattle.std.proofs.Common.{mul-le-mul_right, zero-lt-suc, mul-le-mul, mul-pos, zero-mul, le_of_mul-le-mul_right, arith, leb→le, pow_pos}
use lib.Ieee.{Float, nan, inf, fin, Format, binary32, prec, emax, low, up, down, unlike, odd, units, round, neg, sum, add, sub, mul, le, of_bits}
use lib.Ieee.Back.{round_whole}
use lib.Ieee.Bits.{is_true}
use lib.Ieee.Exact.{HasValue}
use lib.Ieee.Fits.{down_pos, round_is}
use lib.Ieee.Order.{round_mono}
use lib.Ieee.Scale.{finite}
use Rattle.number.specs.Float32.{◌⊕◌, ◌⊖◌, ◌⊗◌, half}
use Rattle.number.proofs.Signs.{round_neg}
use Rattle.number.proofs.Signed.{over}
use Rattle.number.proofs.Zeros.{Zero}
use Rattle.number.proofs.Units.{Units}

-- ---- a rounded fraction has its sign

abbrev pub plus : Float → Bool
plus nan = false
plus (inf s) = not s
plus (fin s m e) = not s

odd_plus : (d q k l : ℕ) → T (plus (odd d false q k l))
unfolding odd
odd_plus d zero k l = tt
odd_plus d (suc q) k l = tt

units_plus : (f : Format) (q k : ℕ) → T (plus (units f false q k))
unfolding units
units_plus f q k = go (ltb (q * 2 ^ k) (2 ^ (low f + suc (emax f))))
  where
    go : (b : Bool) → T (plus (cond b (odd (suc (prec f)) false q k (low f)) (inf false)))
    go true = odd_plus (suc (prec f)) q k (low f)
    go false = tt

pub round_plus : (f : Format) (a c : ℕ) → T (plus (round f false a c))
round_plus f a c = subst (λ (x : Float). T (plus x)) (sym (round_is f false a c)) (units_plus f _ _)

-- what pays no heed to the sign holds of a rounded fraction with either
pub either : (P : Float → Type 0) → ((x : Float) → P x → P (neg x)) → (s : Bool) (a c : ℕ) → P (round binary32 false a c) → P (round binary32 s a c)
either P turned true a c h = subst P (sym (round_neg binary32 false a c)) (turned _ h)
either P turned false a c h = h

-- ---- sizes

abbrev pub Within : ℕ → Float → Type 0
Within n nan = ⊥
Within n (inf s) = ⊥
Within n (fin s m e) = m * up e ≤ n * down e

pub record AtMost (n : ℕ) (x : Float) : Type 0 where
  pub within : Within n x

within_finite : (n : ℕ) (x : Float) → Within n x → finite x ≡ true
within_finite n nan h = absurd h
within_finite n (inf s) h = absurd h
within_finite n (fin s m e) h = refl

pub most_finite : {n : ℕ} {x : Float} → AtMost n x → finite x ≡ true
most_finite {n} {x} h = within_finite n x h.within

within_neg : (n : ℕ) (x : Float) → Within n x → Within n (neg x)
unfolding neg
within_neg n nan h = h
within_neg n (inf s) h = h
within_neg n (fin s m e) h = h

pub neg_most : {n : ℕ} {x : Float} → AtMost n x → AtMost n (neg x)
neg_most {n} {x} h = record { within = within_neg n x h.within }

within_more : (n k : ℕ) → n ≤ k → (x : Float) → Within n x → Within k x
within_more n k l nan h = h
within_more n k l (inf s) h = h
within_more n k l (fin s m e) h = omega (arith, mul-le-mul_right (down e) l)

pub more_most : {n k : ℕ} {x : Float} → n ≤ k → AtMost n x → AtMost k x
more_most {n} {k} {x} l h = record { within = within_more n k l x h.within }

pub zero_most : {n : ℕ} {x : Float} → Zero x → AtMost n x
zero_most {n} {x} z = record { within = go x z }
  where
    go : (x : Float) → Zero x → Within n x
    go (fin s m e) z = rw z (simp zero-mul (omega arith))
    go nan z = elim z [ ]
    go (inf _) z = elim z [ ]

-- in units of the smallest
pub units_most : {n : ℕ} {x : Float} {s : Bool} {a : ℕ} → Units x s a → a ≤ n * 2 ^ 149 → AtMost n x
units_most {n} {x} {s} {a} u h = record { within = go x u.value }
  where
    go : (x : Float) → HasValue x s a (2 ^ 149) → Within n x
    go nan v = absurd v
    go (inf t) v = absurd v
    go (fin t m e) v = turned (2 ^ 149) (m * up e) (down e) (pow_pos 149) h v.1
      where
        turned : (u b c : ℕ) → 0 < u → a ≤ n * u → b * u ≡ a * c → b ≤ n * c
        turned u b c U l v = le_of_mul-le-mul_right {k = u} (omega (arith, mul-le-mul_right c l)) U

-- ---- a rounded fraction

-- n is an f32
abbrev pub Held : ℕ → Type 0
Held n = HasValue (round binary32 false n 1) false n 1

-- not above n
under : (n : ℕ) (x y : Float) → T (plus x) → HasValue y false n 1 → T (le x y) → Within n x
unfolding le
under n nan y p v t = absurd p
under n (inf true) y p v t = absurd p
under n (inf false) nan p v t = absurd v
under n (inf false) (inf s) p v t = absurd v
under n (inf false) (fin s k d) p v t = absurd t
under n (fin true m e) y p v t = absurd p
under n (fin false m e) nan p v t = absurd v
under n (fin false m e) (inf s) p v t = absurd v
under n (fin false m e) (fin true k d) p v t = absurd (true≢false v.0)
under n (fin false m e) (fin false k d) p v t =
    go (m * up e) (k * up d) (down e) (down d) (down_pos d) v.1 (over (m * up e * down d) (k * up d * down e) (is_true _ t))
  where
    go : (a b c g : ℕ) → 0 < g → b * 1 ≡ n * g → a * g ≤ b * c → a ≤ n * c
    go a b c g G e l = le_of_mul-le-mul_right {k = g} (let f : b * c ≡ n * g * c = rw (← e) (omega arith) in omega arith) G

pub rounded_most : {n : ℕ} → Held n → (s : Bool) (a c : ℕ) → 0 < c → a ≤ n * c → AtMost n (round binary32 s a c)
rounded_most {n} v s a c C h =
    record {
      within =
          either (Within n) (within_neg n) s a c
          (under n _ _ (round_plus binary32 a c) v (round_mono binary32 a c n 1 C (zero-lt-suc 0) (omega arith)));
    }

-- ---- sums and products

-- every whole number from 0 to 2 ^ 24 is one
abbrev pub small : ℕ → Bool
small n = leb n 16777216

small_rounded : {n : ℕ} → T (small n) → (s : Bool) (a c : ℕ) → 0 < c → a ≤ n * c → AtMost n (round binary32 s a c)
small_rounded {n} t = rounded_most (round_whole binary32 false n (leb→le n 16777216 t))

signed_sum
    : {n : ℕ} → T (small n) → (s t : Bool) (a b c : ℕ) → 0 < c → a + b ≤ n * c → AtMost n (sum binary32 s a t b c)
unfolding sum
signed_sum r true true a b c C h = small_rounded r true (a + b) c C h
signed_sum r false false a b c C h = small_rounded r false (a + b) c C h
signed_sum {n} r true false a b c C h = go (ltb a b)
  where
    go : (l : Bool) → AtMost n (cond l (round binary32 false (b - a) c) (round binary32 (ltb b a) (a - b) c))
    go true = small_rounded r false (b - a) c C (omega arith)
    go false = small_rounded r (ltb b a) (a - b) c C (omega arith)
signed_sum {n} r false true a b c C h = go (ltb a b)
  where
    go : (l : Bool) → AtMost n (cond l (round binary32 true (b - a) c) (round binary32 false (a - b) c))
    go true = small_rounded r true (b - a) c C (omega arith)
    go false = small_rounded r false (a - b) c C (omega arith)

within_sum : (n k : ℕ) → T (small (n + k)) → (x y : Float) → Within n x → Within k y → AtMost (n + k) (x ⊕ y)
unfolding add
within_sum n k r nan y h g = absurd h
within_sum n k r (inf s) y h g = absurd h
within_sum n k r (fin s m e) nan h g = absurd g
within_sum n k r (fin s m e) (inf t) h g = absurd g
within_sum n k r (fin s m e) (fin t l d) h g =
    signed_sum r s t (m * up e * down d) (l * up d * down e) (down e * down d) (mul-pos (down_pos e) (down_pos d))
    (omega (arith, mul-le-mul_right (down d) h, mul-le-mul_right (down e) g))

within_product : (n k : ℕ) → T (small (n * k)) → (x y : Float) → Within n x → Within k y → AtMost (n * k) (x ⊗ y)
unfolding mul
within_product n k r nan y h g = absurd h
within_product n k r (inf s) y h g = absurd h
within_product n k r (fin s m e) nan h g = absurd g
within_product n k r (fin s m e) (inf t) h g = absurd g
within_product n k r (fin s m e) (fin t l d) h g =
    small_rounded r (unlike s t) (m * up e * (l * up d)) (down e * down d) (mul-pos (down_pos e) (down_pos d)) (omega (arith, mul-le-mul h g))

module _ {n k : ℕ} {x y : Float} (h : AtMost n x) (g : AtMost k y) where
  pub sum_most : T (small (n + k)) → AtMost (n + k) (x ⊕ y)
  sum_most r = within_sum n k r x y h.within g.within

  pub difference_most : T (small (n + k)) → AtMost (n + k) (x ⊖ y)
  unfolding sub
  difference_most r = within_sum n k r x (neg y) h.within (neg_most g).within

  pub product_most : T (small (n * k)) → AtMost (n * k) (x ⊗ y)
  product_most r = within_product n k r x y h.within g.within

-- half of it
within_half : (n : ℕ) → T (small n) → (x : Float) → Within (2 * n) x → AtMost n (half ⊗ x)
unfolding mul of_bits
within_half n r nan h = absurd h
within_half n r (inf s) h = absurd h
within_half n r (fin s m e) h =
    small_rounded r (unlike false s) (1 * 1 * (m * up e)) (2 * down e) (mul-pos (zero-lt-suc 1) (down_pos e)) (omega arith)

pub half_most : {n : ℕ} {x : Float} → AtMost (2 * n) x → T (small n) → AtMost n (half ⊗ x)
half_most {n} {x} h r = within_half n r x h.within
