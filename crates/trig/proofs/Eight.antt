-- The eight cases of the signs and of which size is larger: in each the angle's sine and cosine meet 02's conditions. Assumes nothing.
use Rattle.std.proofs.Common.{◌≡◌, ℕ, zero, suc, ◌+◌, ◌-◌, ◌*◌, ◌<◌, ◌≤◌, Bool, true, false, T, ◌⊎◌, refl, ap, arith, lit≤}
use Rattle.trig.specs.Degrees.{wave_of}
use Rattle.trig.specs.Octant.{tangent_one, most}
use Rattle.trig.specs.Angle.{turns_to, full_turn, half_turn, quarter_turn, flat_steps_of, steep_steps_of}
use Rattle.trig.proofs.Octants.{Level}
use Rattle.trig.proofs.Stood.{stood_more, stood_less}
use Rattle.trig.proofs.Conditions.{flat_angle, steep_angle}

-- y / b is so many steps; a and c are the sizes of the float y and x
module _ (y b p : ℕ) (t s : Bool) (a c : ℕ) (B : 0 < b) (P : p ≤ tangent_one) where
  taken : (whole n : ℕ) → n ≤ most → most ≤ whole → y * 65536 ≡ (whole - n) * b → y * 65536 + n * b ≡ whole * b
  taken whole n h k e =
      let s : whole - n + n ≡ whole = omega arith in
      let u : (whole - n + n) * b ≡ whole * b = ap (λ (z : ℕ). z * b) s in
      omega arith

  pub flat_case : (ym xm : Bool) (n : ℕ) → n ≤ most → Level p n → y * 65536 ≡ flat_steps_of ym xm n * b → xm ≡ s → (ym ≡ t) ⊎ (a ≡ 0) → a ≤ c → 0 < c →
      p * c ≤ tangent_one * a + c → tangent_one * a ≤ p * c + c → T (turns_to t a s c (wave_of 0 y b) (wave_of 1 y b))
  flat_case false false n small level h e f l C over under =
      flat_angle t s false a c p n (wave_of 0 y b) (wave_of 1 y b) P level false false
      (stood_more y b 4 n 0 true false B small refl refl h)
      (stood_more y b 4 n 1 false false B small refl refl h) e f l C over under
  flat_case true false n small level h e f l C over under =
      flat_angle t s true a c p n (wave_of 0 y b) (wave_of 1 y b) P level false false
      (stood_less y b 3 n 0 true false B small refl refl refl refl (taken full_turn n small (lit≤ tt) h))
      (stood_less y b 3 n 1 false false B small refl refl refl refl (taken full_turn n small (lit≤ tt) h)) e f l C over under
  flat_case false true n small level h e f l C over under =
      flat_angle t s true a c p n (wave_of 0 y b) (wave_of 1 y b) P level true true
      (stood_less y b 5 n 0 true true B small refl refl refl refl (taken (full_turn + half_turn) n small (lit≤ tt) h))
      (stood_less y b 5 n 1 false true B small refl refl refl refl (taken (full_turn + half_turn) n small (lit≤ tt) h)) e f l C over under
  flat_case true true zero small level h e f l C over under =
      flat_angle t s false a c p zero (wave_of 0 y b) (wave_of 1 y b) P level true true
      (stood_more y b 6 zero 0 true true B small refl refl h)
      (stood_more y b 6 zero 1 false true B small refl refl h) e f l C over under
  flat_case true true (suc n) small level h e f l C over under =
      flat_angle t s false a c p (suc n) (wave_of 0 y b) (wave_of 1 y b) P level true true
      (stood_more y b 2 (suc n) 0 true true B small refl refl h)
      (stood_more y b 2 (suc n) 1 false true B small refl refl h) e f l C over under

  pub steep_case : (ym xm : Bool) (n : ℕ) → n ≤ most → Level p n → y * 65536 ≡ steep_steps_of ym xm n * b → ym ≡ t → (xm ≡ s) ⊎ (c ≡ 0) → c ≤ a → 0 < a →
      p * a ≤ tangent_one * c + a → tangent_one * c ≤ p * a + a → T (turns_to t a s c (wave_of 0 y b) (wave_of 1 y b))
  steep_case false false n small level h e f l A over under =
      steep_angle t s true a c p n (wave_of 0 y b) (wave_of 1 y b) P level false true
      (stood_less y b 4 n 0 false false B small refl refl refl refl (taken (full_turn + quarter_turn) n small (lit≤ tt) h))
      (stood_less y b 4 n 1 true true B small refl refl refl refl (taken (full_turn + quarter_turn) n small (lit≤ tt) h)) e f l A over under
  steep_case false true n small level h e f l A over under =
      steep_angle t s false a c p n (wave_of 0 y b) (wave_of 1 y b) P level false true
      (stood_more y b 5 n 0 false false B small refl refl h)
      (stood_more y b 5 n 1 true true B small refl refl h) e f l A over under
  steep_case true false n small level h e f l A over under =
      steep_angle t s false a c p n (wave_of 0 y b) (wave_of 1 y b) P level true false
      (stood_more y b 3 n 0 false true B small refl refl h)
      (stood_more y b 3 n 1 true false B small refl refl h) e f l A over under
  steep_case true true n small level h e f l A over under =
      steep_angle t s true a c p n (wave_of 0 y b) (wave_of 1 y b) P level true false
      (stood_less y b 2 n 0 false true B small refl refl refl refl (taken (full_turn - quarter_turn) n small (lit≤ tt) h))
      (stood_less y b 2 n 1 true false B small refl refl refl refl (taken (full_turn - quarter_turn) n small (lit≤ tt) h)) e f l A over under
