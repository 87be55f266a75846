-- What 0, 1 and -1 do to a number of the format in a product, and 0 in a sum: nothing is rounded, and only the sign of a zero may change.
-- Assumes nothing.
use Rattle.std.proofs.Common.{◌≡◌, ℕ, zero, suc, ◌*◌, Bool, true, false, T, ℤ, pos, sym, refl, ap, ◌∙◌, ap₂, one-mul, zero-mul, mul-one, arith, eqb→eq}
use lib.Ieee.{Float, nan, inf, fin, Format, up, down, unlike, round, neg, add, sub, mul, fits}
use lib.Ieee.Fits.{neg-fits, mul-fits}
use lib.Ieee.Scale.{finite}
use Rattle.number.specs.Float32 as float
use Rattle.number.specs.Same.{plain, Same}
use Rattle.number.proofs.Signs.{round_zero, mul_neg}
use Rattle.number.proofs.Same.{sum_left, same_refl, same_of, same_trans, same_add, same_eq}
use Rattle.number.proofs.Size.{nought, flat}
use Rattle.number.proofs.Exact.{round_own}
use Rattle.number.proofs.Plain as plain
use Rattle.number.proofs.Zeros.{Zero, of_eq, to_eq, neg_zero, mul_zero}

abbrev unit : Float
unit = fin false 1 (pos 0)

-- a number is the float of its own fraction
own : (f : Format) (s : Bool) (m : ℕ) (e : ℤ) → T (fits f (fin s m e)) → round f s (m * up e) (down e) ≡ fin s m e
unfolding fits
own f s zero e t =
    ap (λ (a : ℕ). round f s a (down e)) (zero-mul (up e))
    ∙ round_zero f s (down e)
    ∙ ap (λ (d : ℤ). fin s 0 d) (sym (flat e (eqb→eq (up e * down e) 1 t)))
own f s (suc m) e t = round_own f s m e t

-- a zero is one of the two
same_nought : (f : Format) (x : Float) → T (fits f x) → Zero x → Same x nought
unfolding fits plain
same_nought f (fin s zero e) t z = record { number = ap (λ (d : ℤ). fin false 0 d) (flat e (eqb→eq (up e * down e) 1 t)) }
same_nought f (fin s (suc m) e) t z = absurd (omega arith)
same_nought f nan t z = elim z [ ]
same_nought f (inf _) t z = elim z [ ]

-- ---- products

pub zero_times : (f : Format) (x : Float) → finite x ≡ true → Same (mul f nought x) nought
zero_times f x h = same_nought f (mul f nought x) (mul-fits f nought x) (mul_zero f nought x refl h)

sign : (s : Bool) → unlike false s ≡ s
sign true = refl
sign false = refl

pub one_times : (f : Format) (x : Float) → T (fits f x) → mul f unit x ≡ x
unfolding mul
one_times f nan t = refl
one_times f (inf s) t = ap inf (sign s)
one_times f (fin s m e) t =
    ap (λ (b : Bool). round f b (1 * (m * up e)) (1 * down e)) (sign s)
    ∙ ap₂ (λ (a c : ℕ). round f s a c) (one-mul (m * up e)) (one-mul (down e))
    ∙ own f s m e t

pub minus_one_times : (f : Format) (x : Float) → T (fits f x) → mul f (neg unit) x ≡ neg x
minus_one_times f x t = mul_neg f unit x ∙ ap neg (one_times f x t)

-- ---- sums

pub zero_plus : (f : Format) (x : Float) → T (fits f x) → Same (add f nought x) x
unfolding add
zero_plus f nan t = same_of refl
zero_plus f (inf s) t = same_of refl
zero_plus f (fin s m e) t =
    record {
      number =
          sum_left f false s (0 * down e) (m * up e * 1) (1 * down e) (zero-mul (down e))
          ∙ ap₂ (λ (a c : ℕ). plain (round f s a c)) (mul-one (m * up e)) (one-mul (down e))
          ∙ ap plain (own f s m e t);
    }

pub plus_zero : (f : Format) (x : Float) → T (fits f x) → Same (add f x nought) x
plus_zero f x t = record { number = ap plain (plain.plus_zero f x t) ∙ plain.plain_plain x }

-- a zero of either sign changes nothing but the sign of a zero
module _ (f : Format) (x n : Float) (t : T (fits f x)) (k : T (fits f n)) (z : Zero n) where
  pub plus_none : Same (add f x n) x
  plus_none = same_trans (same_add f (same_refl x) (same_nought f n k z)) (plus_zero f x t)

  pub none_plus : Same (add f n x) x
  none_plus = same_trans (same_add f (same_nought f n k z) (same_refl x)) (zero_plus f x t)

pub minus_none : (f : Format) (x n : Float) → T (fits f x) → T (fits f n) → Zero n → Same (sub f x n) x
unfolding sub
minus_none f x n t k z = plus_none f x (neg n) t (neg-fits f n k) (neg_zero n z)

-- one number's floats are zeros together
pub same_zero : {x y : Float} → Same x y → Zero x → Zero y
same_zero {x} {y} p z = of_eq y (sym (same_eq p (same_refl float.zero)) ∙ to_eq x z)
