-- How far a fixed-point number is from the fraction that it stands for, and how far a stage's result is. Nothing here is about angles. Assumes nothing.
use Rattle.std.proofs.Common.{◌≡◌, ℕ, ◌+◌, ◌-◌, ◌*◌, ◌/◌, ◌<◌, ◌≤◌, ap, le_of_lt, mul-le-mul_right, mul-le-mul, mul-le-mul_left, mul-pos, div-mul-le_self}
use Rattle.std.proofs.Common.{arith}
use native.Mathlib.Nat.{le_of_mul-le-mul_left}
use native.Mathlib.Nat.{div-le_of_le-mul, lt-div-mul-add}

-- h / f is within e / f of n / d: the two sides of |h * d - f * n| ≤ e * d
pub record Around (f e h n d : ℕ) : Type 0 where
  pub over : h * d ≤ f * n + e * d
  pub under : f * n ≤ h * d + e * d

-- the product of a / f, near m / k, and b / f, near n / d, before it is cut: off by at most i + j of a unit
product_over : (f i j a b m k n d : ℕ) → m ≤ k → b ≤ f → Around f i a m k → Around f j b n d → a * b * (k * d) ≤ f * (f * (m * n) + (i + j) * (k * d))
product_over f i j a b m k n d hm hb p q =
    let s : a * k * (b * d) ≤ (f * m + i * k) * (b * d) = mul-le-mul_right (b * d) p.over in
    let t : f * m * (b * d) ≤ f * m * (f * n + j * d) = mul-le-mul_left (f * m) q.over in
    let u : i * k * d * b ≤ i * k * d * f = mul-le-mul_left (i * k * d) hb in
    let v : f * j * d * m ≤ f * j * d * k = mul-le-mul_left (f * j * d) hm in
    omega arith

product_under : (f i j a b m k n d : ℕ) → m ≤ k → b ≤ f → Around f i a m k → Around f j b n d → f * (f * (m * n)) ≤ a * b * (k * d) + f * ((i + j) * (k * d))
product_under f i j a b m k n d hm hb p q =
    let s : f * m * (f * n) ≤ f * m * (b * d + j * d) = mul-le-mul_left (f * m) q.under in
    let t : f * m * (b * d) ≤ (a * k + i * k) * (b * d) = mul-le-mul_right (b * d) p.under in
    let u : i * k * d * b ≤ i * k * d * f = mul-le-mul_left (i * k * d) hb in
    let v : f * j * d * m ≤ f * j * d * k = mul-le-mul_left (f * j * d) hm in
    omega arith

-- The product divided by c and cut. What is off comes to at most (i + j) / c and one unit for the cut, so to e.
module _ (f : ℕ) (F : 0 < f) (c e i j a b m k n d : ℕ) (C : 0 < c) (room : i + j + c ≤ e * c) (hm : m ≤ k) (hb : b ≤ f) (p : Around f i a m k)
    (q : Around f j b n d) where
  cut : ℕ
  cut = a * b / (c * f)

  cut_le : cut * (c * f) ≤ a * b
  unfolding cut
  cut_le = div-mul-le_self (a * b) (c * f)

  cut_gt : a * b < cut * (c * f) + c * f
  unfolding cut
  cut_gt = lt-div-mul-add (mul-pos C F)

  roomy : (i + j + c) * (k * d) ≤ e * c * (k * d)
  roomy = mul-le-mul_right (k * d) room

  cut_over : f * (cut * (c * k * d)) ≤ f * (f * (m * n) + e * (c * k * d))
  cut_over =
      let s : cut * (c * f) * (k * d) ≤ a * b * (k * d) = mul-le-mul_right (k * d) cut_le in
      let t : f * ((i + j + c) * (k * d)) ≤ f * (e * c * (k * d)) = mul-le-mul_left f roomy in
      let r = product_over f i j a b m k n d hm hb p q in
      omega arith

  cut_under : f * (f * (m * n)) ≤ f * (cut * (c * k * d) + e * (c * k * d))
  cut_under =
      let s : a * b * (k * d) ≤ (cut * (c * f) + c * f) * (k * d) = mul-le-mul_right (k * d) (le_of_lt cut_gt) in
      let t : f * ((i + j + c) * (k * d)) ≤ f * (e * c * (k * d)) = mul-le-mul_left f roomy in
      let r = product_under f i j a b m k n d hm hb p q in
      omega arith

  pub times : Around f e (a * b / (c * f)) (m * n) (c * k * d)
  unfolding cut
  times = record { over = le_of_mul-le-mul_left cut_over F; under = le_of_mul-le-mul_left cut_under F }

-- 1 less a number
other : (f e p m d x y : ℕ) → x + p ≡ f → y + m ≡ d → Around f e p m d → Around f e x y d
other f e p m d x y g h q =
    let s : (x + p) * d ≡ f * d = ap (λ (z : ℕ). z * d) g in
    let t : f * (y + m) ≡ f * d = ap (λ (z : ℕ). f * z) h in
    record { over = omega (arith, q.under); under = omega (arith, q.over) }

pub rest : (f e p m d : ℕ) → p ≤ f → m ≤ d → Around f e p m d → Around f e (f - p) (d - m) d
rest f e p m d hp hm q = other f e p m d (f - p) (d - m) (omega arith) (omega arith) q

-- What holds of each stage of the nested series: it is near n / d, which is at most 1, and is at most 1 itself.
pub record Stage (f e h n d : ℕ) : Type 0 where
  pub near : Around f e h n d
  pub small : n ≤ d
  pub fixed : h ≤ f

-- a product of two numbers up to 1 is up to 1
pub cut_fixed : (f c a b : ℕ) → 0 < c → a ≤ f → b ≤ f → a * b / (c * f) ≤ f
cut_fixed f c a b C ha hb =
    let s : a * b ≤ f * f = mul-le-mul ha hb in
    let t : 1 * (f * f) ≤ c * (f * f) = mul-le-mul_right (f * f) C in
    div-le_of_le-mul (c * f) (omega arith)

pub product_le : (v w c n d : ℕ) → 0 < c → v ≤ w → n ≤ d → v * n ≤ c * w * d
product_le v w c n d C h k =
    let s : v * n ≤ w * d = mul-le-mul h k in
    let t : 1 * (w * d) ≤ c * (w * d) = mul-le-mul_right (w * d) C in
    omega arith

-- One stage more, 1 - u * h / c, where u / f is near v / w.
pub stage : (f : ℕ) → 0 < f → (c e i j u h v w n d : ℕ) → 0 < c → i + j + c ≤ e * c → Stage f i u v w → Stage f j h n d
    → Stage f e (f - u * h / (c * f)) (c * w * d - v * n) (c * w * d)
stage f F c e i j u h v w n d C room U H =
    record {
      near =
          rest f e (u * h / (c * f)) (v * n) (c * w * d) (cut_fixed f c u h C U.fixed H.fixed) (product_le v w c n d C U.small H.small)
          (times f F c e i j u h v w n d C room U.small H.fixed U.near H.near);
      small = omega arith;
      fixed = omega arith;
    }
