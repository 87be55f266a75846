-- Two numbers u and v, turned into a u - b v and a v + b u where a or b is above a half in size: these are zeros exactly where u and v are. No product by
-- what is above a half rounds to zero; and one of the two sums has terms of one sign, so that it is zero only where they are. Assumes nothing.
use mathlib.Core.Path.{◌≡◌, refl, sym, ap, ◌∙◌}
use mathlib.Core.Logic.{◌⊎◌, inl, inr}
use mathlib.Core.Bool.{Bool, true, false, not}
use lib.Dec.{T}
use lib.Ieee.{Float, binary32, unlike, fits, neg, sub, lt}
use lib.Ieee.Fits.{neg-fits, mul-fits}
use lib.Ieee.Scale.{finite}
use Rattle.number.specs.Float32.{◌⊕◌, ◌⊖◌, ◌⊗◌, half}
use Rattle.number.specs.Same.{fabsf_of}
use Rattle.number.proofs.Zeros.{Zero, zero_finite, neg_zero, of_neg_zero, mul_zero_right, add_zero, sub_zero}
use Rattle.number.proofs.Finite.{add_finite, sub_finite}
use Rattle.number.proofs.Vanish.{negative, neg_negative, mul_negative, wide_product, Cancel, cancel}

-- above a half in size
abbrev pub Wide : Float → Type 0
Wide a = lt half (fabsf_of a) ≡ true

-- a finite f32
abbrev pub Single : Float → Type 0
Single x = T (fits binary32 x) × (finite x ≡ true)

-- the signs of the terms a u and -(b v) agree, or those of a v and b u
two_signs : (a b u v : Bool) → (unlike a u ≡ not (unlike b v)) ⊎ (unlike a v ≡ unlike b u)
two_signs true true true true = inr refl
two_signs true true true false = inl refl
two_signs true true false true = inl refl
two_signs true true false false = inr refl
two_signs true false true true = inl refl
two_signs true false true false = inr refl
two_signs true false false true = inr refl
two_signs true false false false = inl refl
two_signs false true true true = inl refl
two_signs false true true false = inr refl
two_signs false true false true = inr refl
two_signs false true false false = inl refl
two_signs false false true true = inr refl
two_signs false false true false = inl refl
two_signs false false false true = inl refl
two_signs false false false false = inr refl

-- by an a above a half: x is zero where a x is, and then y where b x = 0 makes a y zero
both_zero : (a b x y : Float) → Single a → Single b → Single x → Single y → Wide a → (Zero (b ⊗ x) → Zero (a ⊗ y)) → Zero (a ⊗ x) → Zero x × Zero y
both_zero a b x y (ta, _) (_, fb) (tx, _) (ty, _) w next z =
    let n = wide_product a x w ta tx z in
    (n, wide_product a y w ta ty (next (mul_zero_right binary32 b x fb n)))

pub zeros_turned : (a b u v : Float) → Single a → Single b → Zero u → Zero v → Zero (a ⊗ u ⊖ b ⊗ v) × Zero (a ⊗ v ⊕ b ⊗ u)
zeros_turned a b u v (_, fa) (_, fb) n m =
    let times = mul_zero_right binary32 in
    (sub_zero binary32 (a ⊗ u) (b ⊗ v) (times a u fa n) (times b v fb m), add_zero binary32 (a ⊗ v) (b ⊗ u) (times a v fa m) (times b u fb n))

module _ (a b u v : Float) (sa : Single a) (sb : Single b) (su : Single u) (sv : Single v) (p : Zero (a ⊗ u ⊖ b ⊗ v)) (q : Zero (a ⊗ v ⊕ b ⊗ u)) where
  less : Cancel (a ⊗ u) (neg (b ⊗ v))
  unfolding sub
  less = cancel (a ⊗ u) (neg (b ⊗ v)) (mul-fits binary32 a u) (neg-fits binary32 (b ⊗ v) (mul-fits binary32 b v)) p

  more : Cancel (a ⊗ v) (b ⊗ u)
  more = cancel (a ⊗ v) (b ⊗ u) (mul-fits binary32 a v) (mul-fits binary32 b u) q

  one_zero : Zero (a ⊗ u) ⊎ Zero (a ⊗ v)
  one_zero = go (two_signs (negative a) (negative b) (negative u) (negative v))
    where
      sign : (x y : Float) → Single x → Single y → finite (x ⊗ y) ≡ true → negative (x ⊗ y) ≡ unlike (negative x) (negative y)
      sign x y (tx, _) (ty, _) = mul_negative x y tx ty

      go : (unlike (negative a) (negative u) ≡ not (unlike (negative b) (negative v))) ⊎ (unlike (negative a) (negative v) ≡ unlike (negative b) (negative u))
          → Zero (a ⊗ u) ⊎ Zero (a ⊗ v)
      go (inl e) =
          let (f, g) = sub_finite binary32 (a ⊗ u) (b ⊗ v) (zero_finite (a ⊗ u ⊖ b ⊗ v) p) in
          inl (less.signs (sign a u sa su f ∙ e ∙ sym (neg_negative (b ⊗ v) g ∙ ap not (sign b v sb sv g))))
      go (inr e) =
          let (f, g) = add_finite binary32 (a ⊗ v) (b ⊗ u) (zero_finite (a ⊗ v ⊕ b ⊗ u) q) in
          inr (more.signs (sign a v sa sv f ∙ e ∙ sym (sign b u sb su g)))

  pub only_zeros : Wide a ⊎ Wide b → Zero u × Zero v
  only_zeros w = go w one_zero
    where
      across : Zero (a ⊗ u) → Zero (b ⊗ v)
      across z = of_neg_zero (b ⊗ v) (less.along z)

      back : Zero (b ⊗ v) → Zero (a ⊗ u)
      back z = less.back (neg_zero (b ⊗ v) z)

      go : Wide a ⊎ Wide b → Zero (a ⊗ u) ⊎ Zero (a ⊗ v) → Zero u × Zero v
      go (inl w) (inl z) = both_zero a b u v sa sb su sv w more.back z
      go (inl w) (inr z) = let (m, n) = both_zero a b v u sa sb sv su w back z in (n, m)
      go (inr w) (inl z) = let (m, n) = both_zero b a v u sb sa sv su w more.along (across z) in (n, m)
      go (inr w) (inr z) = both_zero b a u v sb sa su sv w across (more.along z)
