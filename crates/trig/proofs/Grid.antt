-- A float in the range, on the grid of 2 ^ -26 degrees: less than a step off, and exact unless it is below 1 in size. Assumes nothing.
use Rattle.std.proofs.Common.{◌≡◌, ℕ, suc, ◌+◌, ◌-◌, ◌*◌, ◌/◌, ◌^◌, ◌<◌, ◌≤◌, Bool, true, false, T, ◌⊎◌, ℤ, pos, negsuc, sym, ap, ◌∙◌, inl, inr, le_of_lt}
use Rattle.std.proofs.Common.{mul_assoc, mul-one, div-mul-le_self, le_of_mul-le-mul_right, div-one, mul-div_cancel, arith, pow_pos, pow_mono, pow-add}
use native.Mathlib.Nat.{lt-div-mul-add}
use lib.Ieee.{fin, binary32, up, down, fits}
use lib.Ieee.Fits.{down_pos}
use Rattle.trig.specs.Degrees.{in_turn, lifted}
use Rattle.trig.specs.Wave.{degree, grid_of}
use Rattle.trig.proofs.Reduce.{Gridded, order}
use Rattle.trig.proofs.Steps.{fits_small, turn_bound}

-- a float that is more than 1 in size is a whole number of steps
exact_or_small : (s : Bool) (m : ℕ) (e : ℤ) → T (fits binary32 (fin s m e)) → (m * up e * degree / down e * down e ≡ m * up e * degree) ⊎ (m * up e ≤ down e)
exact_or_small s m (pos k) f = inl (ap (λ (z : ℕ). z * 1) (div-one (m * 2 ^ k * degree)) ∙ mul-one (m * 2 ^ k * degree))
exact_or_small s m (negsuc k) f = go (order (suc k) 26)
  where
    fine : suc k ≤ 26 → m * 1 * degree / 2 ^ suc k * 2 ^ suc k ≡ m * 1 * degree
    fine h =
        let j : ℕ = 26 - suc k in
        let g : j + suc k ≡ 26 = omega arith in
        let q : 2 ^ j * 2 ^ suc k ≡ degree = sym (pow-add 2 j (suc k)) ∙ ap (λ (z : ℕ). 2 ^ z) g in
        let p : m * 1 * degree ≡ m * 1 * 2 ^ j * 2 ^ suc k = ap (λ (z : ℕ). m * 1 * z) (sym q) ∙ sym (mul_assoc (m * 1) (2 ^ j) (2 ^ suc k)) in
        rw (p, mul-div_cancel (m * 1 * 2 ^ j) (pow_pos (suc k)))

    go : (suc k < 26) ⊎ ((suc k ≡ 26) ⊎ (26 < suc k)) → (m * 1 * degree / 2 ^ suc k * 2 ^ suc k ≡ m * 1 * degree) ⊎ (m * 1 ≤ 2 ^ suc k)
    go (inl l) = inl (fine (le_of_lt l))
    go (inr (inl e)) = inl (fine (omega arith))
    go (inr (inr g)) =
        let p : 2 ^ 26 ≤ 2 ^ suc k = pow_mono {i = 26} {j = suc k} (le_of_lt g) in
        inr (omega (arith, (fits_small s m (negsuc k) f).0))

-- x is the cut size, of a / b in steps
module _ (a b x : ℕ) (B : 0 < b) (low : x * b ≤ a * degree) (high : a * degree < x * b + b) (bound : a ≤ 360 * b) (whole : (x * b ≡ a * degree) ⊎ (a ≤ b)) where
  plus_gridded : Gridded (360 * b + a) b (360 * degree + x)
  plus_gridded =
      record {
        over = omega arith;
        under = omega arith;
        exact = elim whole [ inl e ↦ inl (omega arith) | inr h ↦ inr (omega arith, omega arith) ];
      }

  x_small : x ≤ 360 * degree
  x_small =
      let s : x * b ≤ 360 * degree * b = omega arith in
      le_of_mul-le-mul_right s B

  minus_from : (y r : ℕ) → y + a ≡ 360 * b → r + x ≡ 360 * degree → Gridded y b r
  minus_from y r p q =
      let s : (r + x) * b ≡ 360 * degree * b = ap (λ (z : ℕ). z * b) q in
      record {
        over = omega arith;
        under = omega arith;
        exact = elim whole [ inl e ↦ inl (omega arith) | inr h ↦ inr (omega arith, omega arith) ];
      }

  minus_gridded : Gridded (360 * b - a) b (360 * degree - x)
  minus_gridded =
      let h = x_small in
      minus_from (360 * b - a) (360 * degree - x) (omega arith) (omega arith)

pub gridded : (s : Bool) (m : ℕ) (e : ℤ) → T (fits binary32 (fin s m e)) → T (in_turn (fin s m e))
    → Gridded (lifted s (m * up e) (down e)) (down e) (grid_of (fin s m e))
unfolding grid_of
gridded true m e f t =
    minus_gridded (m * up e) (down e) (m * up e * degree / down e) (down_pos e) (div-mul-le_self (m * up e * degree) (down e)) (lt-div-mul-add (down_pos e))
    (turn_bound true m e t) (exact_or_small true m e f)
gridded false m e f t =
    plus_gridded (m * up e) (down e) (m * up e * degree / down e) (down_pos e) (div-mul-le_self (m * up e * degree) (down e)) (lt-div-mul-add (down_pos e))
    (turn_bound false m e t) (exact_or_small false m e f)
