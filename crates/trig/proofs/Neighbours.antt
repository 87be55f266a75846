-- How far the fixed-point sine and cosine move from one step of 2 ^ -16 degrees to the next. Assumes nothing.
use Rattle.std.proofs.Common.{ℕ, ◌+◌, ◌-◌, ◌*◌, ◌/◌, ◌<◌, ◌≤◌, List, [], ◌∷◌, le_trans, le_of_eq, le_refl, mul-le-mul_right, mul-le-mul_left, mul-pos, arith}
use Rattle.std.proofs.Common.{lit<, lit≤}
use native.Mathlib.Nat.{add-mul-div_right}
use lib.Ieee.Nearest.{div_mono}
use Rattle.trig.specs.Fixed.{one, scaled_of, stage_of, sine_fixed_of, cosine_fixed_of}
use Rattle.trig.specs.Wave.{pi_over180, two_to33, radians_of}
use Rattle.trig.specs.Octant.{tangent_one, most, sine_step, cosine_step, rise_of, run_of}
use Rattle.trig.proofs.Around.{cut_fixed}
use Rattle.trig.proofs.Terms.{sines}
use Rattle.trig.proofs.Series.{nested}
use Rattle.trig.proofs.Quarter.{radians_small}

-- a and b, both up to f, are at most e apart
record Beside (f e a b : ℕ) : Type 0 where
  up : a ≤ b + e
  down : b ≤ a + e
  left : a ≤ f
  right : b ≤ f

-- a quotient moves by at most e where the dividend moves by at most e divisors
moved : (x y e m : ℕ) → 0 < m → x ≤ y + e * m → x / m ≤ y / m + e
moved x y e m M h = le_trans (div_mono x m (y + e * m) m M M (mul-le-mul_right m h)) (le_of_eq (add-mul-div_right y e M))

products : (f i j a b g h : ℕ) → a ≤ b + i → g ≤ h + j → b ≤ f → g ≤ f → a * g ≤ b * h + f * (i + j)
products f i j a b g h p q r s =
    let u : a * g ≤ (b + i) * g = mul-le-mul_right g p in
    let v : b * g ≤ b * (h + j) = mul-le-mul_left b q in
    let w : i * g ≤ i * f = mul-le-mul_left i s in
    let x : j * b ≤ j * f = mul-le-mul_left j r in
    omega arith

module _ (f : ℕ) (F : 0 < f) (c e i j a b g h : ℕ) (C : 0 < c) (room : i + j ≤ e * c) (A : Beside f i a b) (G : Beside f j g h) where
  room_wide : f * (i + j) ≤ e * (c * f)
  room_wide = omega (arith, mul-le-mul_left f room)

  cut_beside : Beside f e (a * g / (c * f)) (b * h / (c * f))
  cut_beside =
      let w = room_wide in
      record {
        up = moved (a * g) (b * h) e (c * f) (mul-pos C F) (omega (arith, products f i j a b g h A.up G.up A.right G.left));
        down = moved (b * h) (a * g) e (c * f) (mul-pos C F) (omega (arith, products f i j b a h g A.down G.down A.left G.right));
        left = cut_fixed f c a g C A.left G.left;
        right = cut_fixed f c b h C A.right G.right;
      }

  stage_beside : Beside f e (f - a * g / (c * f)) (f - b * h / (c * f))
  stage_beside =
      let k = cut_beside in
      record { up = omega (arith, k.down, k.right, k.left); down = omega (arith, k.up, k.right, k.left); left = omega arith; right = omega arith }

same : (a : ℕ) → a ≤ one → Beside one 0 a a
same a h = record { up = omega arith; down = omega arith; left = h; right = h }

-- one step on, the angle in radians moves by at most 286 units of 2 ^ -30
module _ (n : ℕ) (small : n < most) where
  t₀ : ℕ
  t₀ = radians_of (n * 1024)

  t₁ : ℕ
  t₁ = radians_of ((n + 1) * 1024)

  radians_beside : Beside one 286 t₀ t₁
  unfolding t₀ t₁ radians_of
  radians_beside =
      record {
        up = moved (n * 1024 * pi_over180) ((n + 1) * 1024 * pi_over180) 286 two_to33 (lit< tt) (omega arith);
        down = moved ((n + 1) * 1024 * pi_over180) (n * 1024 * pi_over180) 286 two_to33 (lit< tt) (omega arith);
        left = radians_small (n * 1024) (omega arith);
        right = radians_small ((n + 1) * 1024) (omega arith);
      }

  u₀ : ℕ
  u₀ = t₀ * t₀ / one

  u₁ : ℕ
  u₁ = t₁ * t₁ / one

  square_beside : Beside one 572 u₀ u₁
  unfolding u₀ u₁
  square_beside = cut_beside one (lit< tt) 1 572 286 286 t₀ t₁ t₀ t₁ (lit< tt) (lit≤ tt) radians_beside radians_beside

  -- the stage with the divisor c moves by at most e, where the one inside it moves by at most j
  onward : (c e j : ℕ) (cs : List ℕ) → 0 < c → 572 + j ≤ e * c → Beside one j (nested u₀ cs) (nested u₁ cs)
      → Beside one e (nested u₀ (c ∷ cs)) (nested u₁ (c ∷ cs))
  onward c e j cs C room H = stage_beside one (lit< tt) c e 572 j u₀ u₁ (nested u₀ cs) (nested u₁ cs) C room square_beside H

  start : Beside one 0 (nested u₀ []) (nested u₁ [])
  start = same one (le_refl one)

  cosine_beside : Beside one 311 (cosine_step n) (cosine_step (n + 1))
  unfolding cosine_step cosine_fixed_of stage_of scaled_of t₀ t₁ u₀ u₁
  cosine_beside =
      onward 2 311 50 (12 ∷ 30 ∷ 56 ∷ 90 ∷ []) (lit< tt) (lit≤ tt)
      (onward 12 50 20 (30 ∷ 56 ∷ 90 ∷ []) (lit< tt) (lit≤ tt)
      (onward 30 20 11 (56 ∷ 90 ∷ []) (lit< tt) (lit≤ tt) (onward 56 11 7 (90 ∷ []) (lit< tt) (lit≤ tt) (onward 90 7 0 [] (lit< tt) (lit≤ tt) start))))

  sine_beside : Beside one 387 (sine_step n) (sine_step (n + 1))
  unfolding sine_step sine_fixed_of stage_of scaled_of t₀ t₁ u₀ u₁
  sine_beside =
      cut_beside one (lit< tt) 1 387 286 101 t₀ t₁ (nested u₀ sines) (nested u₁ sines) (lit< tt) (lit≤ tt) radians_beside
      (onward 6 101 30 (20 ∷ 42 ∷ 72 ∷ 110 ∷ []) (lit< tt) (lit≤ tt)
      (onward 20 30 14 (42 ∷ 72 ∷ 110 ∷ []) (lit< tt) (lit≤ tt)
      (onward 42 14 9 (72 ∷ 110 ∷ []) (lit< tt) (lit≤ tt) (onward 72 9 6 (110 ∷ []) (lit< tt) (lit≤ tt) (onward 110 6 0 [] (lit< tt) (lit≤ tt) start)))))

  -- so where the tangent p is passed between n and n + 1, what the two are off adds up to at most 698 units
  pub both_off : (p : ℕ) → p ≤ tangent_one → run_of p n + rise_of (n + 1) ≤ run_of p (n + 1) + rise_of n + 698 * tangent_one
  both_off p h =
      let c : p * cosine_step n ≤ p * (cosine_step (n + 1) + 311) = mul-le-mul_left p cosine_beside.up in
      let s : sine_step (n + 1) * tangent_one ≤ (sine_step n + 387) * tangent_one = mul-le-mul_right tangent_one sine_beside.down in
      omega arith
