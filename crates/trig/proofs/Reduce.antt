-- `turns` is the nearest multiple of 90 degrees, and an angle on the grid of 2 ^ -26 degrees is reduced as the exact one is. Assumes nothing.
use Rattle.std.proofs.Common.{◌≡◌, ℕ, ◌+◌, ◌-◌, ◌*◌, ◌<◌, ◌≤◌, Bool, true, false, ltb, ◌⊎◌, sym, refl, ◌∙◌, inl, inr, le_of_lt, mul-le-mul_right, mul_comm}
use Rattle.std.proofs.Common.{add-mul, lt_of_mul-lt-mul_right, le_of_mul-le-mul_right, arith, lit<, ltb-false, ltb-true, le-ltb, lt-ltb}
use native.Mathlib.Nat.{mul-sub}
use native.Mathlib.Nat.{div-eq_of_lt-le}
use Rattle.trig.specs.Degrees.{apart, turns, left, left_minus, NearestMultiple}
use Rattle.trig.specs.Wave.{degree}
use Rattle.trig.proofs.Turns.{turns_over, turns_under}

pub nearest_multiple : NearestMultiple
nearest_multiple y b B = (turns_over y b B, turns_under y b B)

pub turns_is : (y b k : ℕ) → 0 < b → k * (90 * b) < y + 45 * b → y ≤ k * (90 * b) + 45 * b → turns y b ≡ k
unfolding turns
turns_is y b k B h i = div-eq_of_lt-le (90 * b) (omega arith) (omega arith)

spread : (a c b : ℕ) → apart a c * b ≡ apart (a * b) (c * b)
spread a c b = rw (add-mul (a - c) (c - a) b, mul_comm (a - c) b, mul_comm (c - a) b, mul-sub b a c, mul-sub b c a, mul_comm b a, mul_comm b c)

close : (p q r s b : ℕ) → q ≡ s → p < r + b → r < p + b → (apart p q ≤ apart r s + b) × (apart r s ≤ apart p q + b)
close p q r s b e h i = omega arith

pub order : (a b : ℕ) → (a < b) ⊎ ((a ≡ b) ⊎ (b < a))
order a b = go (ltb a b) (ltb b a) refl refl
  where
    go : (t u : Bool) → ltb a b ≡ t → ltb b a ≡ u → (a < b) ⊎ ((a ≡ b) ⊎ (b < a))
    go true u p q = inl (ltb-true a b p)
    go false true p q = inr (inr (ltb-true b a q))
    go false false p q = inr (inl (omega (arith, ltb-false a b p, ltb-false b a q)))

pub left_small : (y b : ℕ) → 0 < b → left y b ≤ 45 * b
unfolding left
left_small y b B =
    let s = turns_over y b B in
    let t = turns_under y b B in
    omega arith

-- r steps of the grid are y / b degrees: less than a step off, and exactly where y / b is not within a degree of 360
pub record Gridded (y b r : ℕ) : Type 0 where
  pub over : r * b < y * degree + b
  pub under : y * degree < r * b + b
  pub exact : (r * b ≡ y * degree) ⊎ ((359 * b ≤ y) × (y ≤ 361 * b))

module _ (y b r : ℕ) (B : 0 < b) where
  turns_exact : r * b ≡ y * degree → turns r degree ≡ turns y b
  turns_exact e =
      let k = turns y b in
      turns_is r degree k (lit< tt)
      (lt_of_mul-lt-mul_right b (omega (arith, turns_over y b B)))
      (le_of_mul-le-mul_right (omega (arith, turns_under y b B)) B)

  turns_small : (c x : ℕ) → 0 < c → 359 * c ≤ x → x ≤ 361 * c → turns x c ≡ 4
  turns_small c x C h i = turns_is x c 4 C (omega arith) (omega arith)

  module _ (g : Gridded y b r) where
    grid_small : 359 * b ≤ y → y ≤ 361 * b → turns r degree ≡ 4
    grid_small h i =
        let s : 359 * degree < r + 1 = lt_of_mul-lt-mul_right b (omega (arith, g.under)) in
        let t : r < 361 * degree + 1 = lt_of_mul-lt-mul_right b (omega (arith, g.over)) in
        turns_small degree r (lit< tt) (omega arith) (omega arith)

    pub turns_same : turns r degree ≡ turns y b
    turns_same =
        elim g.exact [
          | inl e ↦ turns_exact e
          | inr h ↦ grid_small h.0 h.1 ∙ sym (turns_small b y B h.0 h.1)
        ]

    -- what is left is at most a step off too
    left_at : (k : ℕ)
        → (apart r (k * (90 * degree)) * b ≤ apart y (k * (90 * b)) * degree + b) × (apart y (k * (90 * b)) * degree ≤ apart r (k * (90 * degree)) * b + b)
    left_at k =
        let s : apart r (k * (90 * degree)) * b ≡ apart (r * b) (k * (90 * degree) * b) = spread r (k * (90 * degree)) b in
        let t : apart y (k * (90 * b)) * degree ≡ apart (y * degree) (k * (90 * b) * degree) = spread y (k * (90 * b)) degree in
        rw (s, t) (close (r * b) (k * (90 * degree) * b) (y * degree) (k * (90 * b) * degree) b (omega arith) g.over g.under)

    pub left_over : left r degree * b ≤ left y b * degree + b
    unfolding left
    left_over = rw turns_same (left_at (turns y b)).0

    pub left_under : left y b * degree ≤ left r degree * b + b
    unfolding left
    left_under = rw turns_same (left_at (turns y b)).1

    -- the sign of what is left is the same, unless no step is left
    sign_at : (k : ℕ) → (apart r (k * (90 * degree)) ≡ 0) ⊎ (ltb r (k * (90 * degree)) ≡ ltb y (k * (90 * b)))
    sign_at k =
        elim (order r (k * (90 * degree))) [
          | inl l ↦
              let s : (r + 1) * b ≤ k * (90 * degree) * b = mul-le-mul_right b (omega arith) in
              let t : y < k * (90 * b) = lt_of_mul-lt-mul_right degree (omega (arith, g.under)) in
              inr (lt-ltb r (k * (90 * degree)) l ∙ sym (lt-ltb y (k * (90 * b)) t))
          | inr (inl e) ↦ inl (omega arith)
          | inr (inr m) ↦
              let s : (k * (90 * degree) + 1) * b ≤ r * b = mul-le-mul_right b (omega arith) in
              let t : k * (90 * b) < y = lt_of_mul-lt-mul_right degree (omega (arith, g.over)) in
              inr (le-ltb r (k * (90 * degree)) (le_of_lt m) ∙ sym (le-ltb y (k * (90 * b)) (le_of_lt t)))
        ]

    pub left_sign : (left r degree ≡ 0) ⊎ (left_minus r degree ≡ left_minus y b)
    unfolding left left_minus
    left_sign = rw turns_same (sign_at (turns y b))
