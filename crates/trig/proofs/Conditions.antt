-- 02's two conditions for an angle that stands some quarter turns and n steps on, where n has nearly the tangent p of the smaller size to the larger.
-- Assumes nothing.
use Rattle.std.proofs.Common.{◌≡◌, ℕ, ◌+◌, ◌*◌, ◌<◌, ◌≤◌, Bool, true, false, T, ◌⊎◌, ◌∙◌, inl, inr, mul_comm, mul-zero, zero-mul, arith}
use lib.Ieee.{unlike}
use Rattle.trig.specs.Degrees.{Fraction, apart}
use Rattle.trig.specs.Octant.{tangent_one}
use Rattle.trig.specs.Angle.{turns_to}
use Rattle.trig.proofs.Octants.{Level}
use Rattle.trig.proofs.Stood.{Stood}
use Rattle.trig.proofs.Tangent.{across, along}
use Rattle.trig.proofs.Turned.{flat, steep}

nil_left : (a b c : ℕ) → a ≡ 0 → a * (b * c) ≡ 0
nil_left a b c z = rw (z, zero-mul (b * c))

nil_middle : (a b c : ℕ) → b ≡ 0 → a * (b * c) ≡ 0
nil_middle a b c z = rw (z, zero-mul c, mul-zero a)

not_nil : (a : ℕ) → 0 < a → a ≡ 0 → ⊥
not_nil a h z = omega arith

apart_comm : (a b : ℕ) → apart a b ≡ apart b a
apart_comm a b = omega arith

module _ (t s minus : Bool) (y x p n : ℕ) (sine cosine : Fraction) (P : p ≤ tangent_one) (level : Level p n) where
  -- |y| ≤ |x|: sine-like, and the other cosine-like
  pub flat_angle : (b c : Bool) → Stood sine true b minus n → Stood cosine false c minus n → c ≡ s → (unlike minus b ≡ t) ⊎ (y ≡ 0) → y ≤ x → 0 < x →
      p * x ≤ tangent_one * y + x → tangent_one * y ≤ p * x + x → T (turns_to t y s x sine cosine)
  flat_angle b c S C e f l X over under =
      let g =
      along y x p n sine.top sine.bottom cosine.top cosine.bottom P over under level S.good.near C.good.near C.good.small
      X S.good.pos C.good.pos in
      flat t y s x sine cosine (cosine_sign g C.sign) (sine_sign S.sign f) l g
      (across y x p n sine.top sine.bottom cosine.top cosine.bottom P over under level S.good.near C.good.near C.good.small)
    where
      cosine_sign : 0 < x * (cosine.top * sine.bottom) → (cosine.top ≡ 0) ⊎ (cosine.minus ≡ c) → cosine.minus ≡ s
      cosine_sign g (inl z) = absurd (not_nil _ g (nil_middle x cosine.top sine.bottom z))
      cosine_sign g (inr h) = h ∙ e

      sine_sign : (sine.top ≡ 0) ⊎ (sine.minus ≡ unlike minus b) → (unlike minus b ≡ t) ⊎ (y ≡ 0) →
          (sine.minus ≡ t) ⊎ ((y * (sine.top * cosine.bottom) ≡ 0) × ((y * (cosine.top * sine.bottom) ≡ 0) ⊎ (x * (sine.top * cosine.bottom) ≡ 0)))
      sine_sign (inl z) f = inr (nil_middle y sine.top cosine.bottom z, inr (nil_middle x sine.top cosine.bottom z))
      sine_sign (inr h) (inl f) = inl (h ∙ f)
      sine_sign (inr h) (inr z) = inr (nil_left y sine.top cosine.bottom z, inl (nil_left y cosine.top sine.bottom z))

  -- |x| ≤ |y|: the two change places
  pub steep_angle : (b c : Bool) → Stood sine false b minus n → Stood cosine true c minus n → b ≡ t → (unlike minus c ≡ s) ⊎ (x ≡ 0) → x ≤ y → 0 < y →
      p * y ≤ tangent_one * x + y → tangent_one * x ≤ p * y + y → T (turns_to t y s x sine cosine)
  steep_angle b c S C e f l Y over under =
      let g =
      along x y p n cosine.top cosine.bottom sine.top sine.bottom P over under level C.good.near S.good.near S.good.small
      Y C.good.pos S.good.pos in
      let a = across x y p n cosine.top cosine.bottom sine.top sine.bottom P over under level C.good.near S.good.near S.good.small in
      steep t y s x sine cosine (sine_sign g S.sign) (cosine_sign C.sign f) l g
      (rw (apart_comm (y * (cosine.top * sine.bottom)) (x * (sine.top * cosine.bottom)), mul_comm sine.bottom cosine.bottom) a)
    where
      sine_sign : 0 < y * (sine.top * cosine.bottom) → (sine.top ≡ 0) ⊎ (sine.minus ≡ b) → sine.minus ≡ t
      sine_sign g (inl z) = absurd (not_nil _ g (nil_middle y sine.top cosine.bottom z))
      sine_sign g (inr h) = h ∙ e

      cosine_sign : (cosine.top ≡ 0) ⊎ (cosine.minus ≡ unlike minus c) → (unlike minus c ≡ s) ⊎ (x ≡ 0) →
          (cosine.minus ≡ s) ⊎ ((x * (cosine.top * sine.bottom) ≡ 0) × ((y * (cosine.top * sine.bottom) ≡ 0) ⊎ (x * (sine.top * cosine.bottom) ≡ 0)))
      cosine_sign (inl z) f = inr (nil_middle x cosine.top sine.bottom z, inl (nil_middle y cosine.top sine.bottom z))
      cosine_sign (inr h) (inl f) = inl (h ∙ f)
      cosine_sign (inr h) (inr z) = inr (nil_left x cosine.top sine.bottom z, inr (nil_left x sine.top cosine.bottom z))
