-- Four squares, each rounded, and summed with three roundings: the sum lies from about a third to about twice the exact one, even where the squares
-- are no more than a few of the smallest f32. Whole numbers only, u for the number 1 in units of the smallest. The bounds are coarse: 1 / 256 stands for
-- 2 ^ -24. Assumes nothing.
use mathlib.Core.Path.{◌≡◌, ap}
use mathlib.Core.Logic.{inl, inr}
use Prim.Native.Nat.{ℕ, ◌+◌, ◌*◌, ◌≤◌, ◌<◌}
use native.Mathlib.Nat.{eq-zero-or-pos, mul-le-mul_right}
use native.Mathlib.Omega.{arith}
use Rattle.number.proofs.Rounding.{Rounded, RoundedWhole}

-- ---- coarse

-- g for n / c, and g for w
pub record Near (n c g : ℕ) : Type 0 where
  pub over : 256 * (g * c) ≤ 257 * n + 128 * c
  pub under : 255 * n ≤ 256 * (g * c) + 128 * c

pub near : {n c g : ℕ} → Rounded n c g → Near n c g
near h = record { over = omega (arith, h.over); under = omega (arith, h.under) }

pub record NearWhole (w g : ℕ) : Type 0 where
  pub over : 256 * g ≤ 257 * w
  pub under : 255 * w ≤ 256 * g

pub near_whole : {w g : ℕ} → RoundedWhole w g → NearWhole w g
near_whole h = record { over = omega (arith, h.over); under = omega (arith, h.under) }

-- ---- the sum of four, rounded at each step: it is within 1 / 64 of the exact sum

pub record Close (m n : ℕ) : Type 0 where
  pub over : 64 * n ≤ 65 * m
  pub under : 64 * m ≤ 65 * n

pub close : (a b c d : ℕ) {s t n : ℕ} → RoundedWhole (a + b) s → RoundedWhole (s + c) t → RoundedWhole (t + d) n → Close (a + b + c + d) n
close a b c d {s} {t} {n} h i j = go (near_whole h) (near_whole i) (near_whole j)
  where
    go : NearWhole (a + b) s → NearWhole (s + c) t → NearWhole (t + d) n → Close (a + b + c + d) n
    go h i j = record { over = omega (arith, h.over, i.over, j.over); under = omega (arith, h.under, i.under, j.under) }

-- ---- the squares and their sum

-- a for s: the half of a unit is at most a half of a
half : (u s a : ℕ) → Near s u a → 128 * (a * u) ≤ 257 * s
half u s a h = elim (eq-zero-or-pos a) [ inl z ↦ none (ap (λ (x : ℕ). x * u) z) | inr p ↦ some (mul-le-mul_right u p) h.over ]
  where
    none : a * u ≡ 0 * u → 128 * (a * u) ≤ 257 * s
    none z = omega arith

    some : 1 * u ≤ a * u → 256 * (a * u) ≤ 257 * s + 128 * u → 128 * (a * u) ≤ 257 * s
    some l o = omega arith

-- n for the sum of the squares, e
pub record Squares (u e n : ℕ) : Type 0 where
  pub over : 32 * e ≤ 97 * (n * u)
  pub under : 32 * (n * u) ≤ 66 * e

pub squares : (u : ℕ) {p q r s : ℕ} (a b c d : ℕ) {n : ℕ} → Near p u a → Near q u b → Near r u c → Near s u d → Close (a + b + c + d) n → 0 < n
    → Squares u (p + q + r + s) n
squares u {p} {q} {r} {s} a b c d {n} h i j k l N =
    let e = p + q + r + s in
    let t = a + b + c + d in
    record {
      over = above e (t * u) (n * u) (omega (arith, h.under, i.under, j.under, k.under)) (times_u t n l.under) (by_one N);
      under = below e (t * u) (n * u) (omega (arith, half u p a h, half u q b i, half u r c j, half u s d k)) (times_u n t l.over);
    }
  where
    above : (e t f : ℕ) → 255 * e ≤ 256 * t + 512 * u → 64 * t ≤ 65 * f → u ≤ f → 32 * e ≤ 97 * f
    above e t f x y z = omega arith

    below : (e t f : ℕ) → 128 * t ≤ 257 * e → 64 * f ≤ 65 * t → 32 * f ≤ 66 * e
    below e t f x y = omega arith

    times_u : (x y : ℕ) → 64 * x ≤ 65 * y → 64 * (x * u) ≤ 65 * (y * u)
    times_u x y g = let m : 64 * x * u ≤ 65 * y * u = mul-le-mul_right u g in omega (arith, m)

    by_one : 1 ≤ n → u ≤ n * u
    by_one g = let m : 1 * u ≤ n * u = mul-le-mul_right u g in omega (arith, m)
