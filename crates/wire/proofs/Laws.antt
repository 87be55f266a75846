-- What patterns and floats are to each other, what the bytes of a number make, and a list by its elements. Assumes nothing.
use Prim.Native.Nat.{ℕ, zero, suc, ◌+◌, ◌*◌, ◌/◌, ◌%◌, ◌<◌, ◌≤◌}
use native.Mathlib.Omega.{arith}
use native.Mathlib.Decide.{dec_lt}
use mathlib.Core.Path.{◌≡◌, refl, ap, sym, ◌∙◌, subst}
use mathlib.Core.Bool.{Bool, true, false, not, cond, ◌&&◌}
use mathlib.Core.List.{List, [], ◌∷◌}
use lib.Dec.{T, ltb, eqb}
use lib.ListN.{length, get_or, take, drop, drop_of_length-le}
use lib.Seq.{drop-cons}
use lib.Ieee.{Float, nan, inf, fin, binary32, is_nan, nan_bits, odd, of_fields, of_bits, to_bits, ne, div}
use lib.Ieee.Bits.{nan_bits_is}
use lib.Ieee.Compare.{differs_from_itself}
use lib.Ieee.Scale.{finite}
use borrow.Author.Tests.{lt-ltb, le-ltb, eq-eqb, ne_eqb}
use Rattle.wire.specs.Wire.{finite_bits}

-- a NaN's pattern without the sign's bit is above an infinity's
pub nan_above : (n : ℕ) → ltb 2139095040 (n % 2147483648) ≡ nan_bits binary32 n
unfolding nan_bits
nan_above n = go (dec_lt 2139095040 (n % 2147483648)) (dec_lt (n % 2147483648) 2139095040)
  where
    go : Dec (2139095040 < n % 2147483648) → Dec (n % 2147483648 < 2139095040)
        → ltb 2139095040 (n % 2147483648) ≡ (eqb (n % 2147483648 / 8388608) 255 && not (eqb (n % 8388608) 0))
    go (yes l) d =
        simp (lt-ltb 2139095040 (n % 2147483648) l, eq-eqb (n % 2147483648 / 8388608) 255 (omega arith))
        (simp (ne_eqb (n % 8388608) 0 (λ e. omega arith)))
    go (no g) (yes h) =
        simp (le-ltb 2139095040 (n % 2147483648) (omega arith), ne_eqb (n % 2147483648 / 8388608) 255 (λ e. omega arith))
    go (no g) (no h) =
        simp (le-ltb 2139095040 (n % 2147483648) (omega arith), eq-eqb (n % 2147483648 / 8388608) 255 (omega arith))
        (simp (eq-eqb (n % 8388608) 0 (omega arith)))

finite_odd : (d : ℕ) (s : Bool) (q k l : ℕ) → finite (odd d s q k l) ≡ true
unfolding odd
finite_odd d s zero k l = refl
finite_odd d s (suc q) k l = refl

finite_picked : (b u s : Bool) (d q k l : ℕ) → finite (cond b (cond u (inf s) nan) (odd d s q k l)) ≡ not b
finite_picked true true s d q k l = refl
finite_picked true false s d q k l = refl
finite_picked false u s d q k l = finite_odd d s q k l

finite_fields : (s : Bool) (x t : ℕ) → finite (of_fields binary32 s x t) ≡ not (eqb x 255)
unfolding of_fields
finite_fields s zero t = finite_odd 24 s t 0 149
finite_fields s (suc x) t = finite_picked (eqb (suc x) 255) (eqb t 0) s 24 (8388608 + t) x 149

not_ones : (m : ℕ) → m < 2147483648 → Dec (m < 2139095040) → not (eqb (m / 8388608) 255) ≡ ltb m 2139095040
not_ones m h (yes l) = simp (lt-ltb m 2139095040 l, ne_eqb (m / 8388608) 255 (λ e. omega arith))
not_ones m h (no g) = simp (le-ltb m 2139095040 (omega arith), eq-eqb (m / 8388608) 255 (omega arith))

-- the test on the pattern is the test on the float that it stands for
pub finite_of_bits : (n : ℕ) → finite (of_bits binary32 n) ≡ finite_bits n
unfolding of_bits finite_bits
finite_of_bits n =
    finite_fields _ (n % 2147483648 / 8388608) (n % 8388608) ∙ not_ones (n % 2147483648) (omega arith) (dec_lt (n % 2147483648) 2139095040)

pub finite_no_nan : (x : Float) → T (finite x) → T (not (is_nan x))
unfolding is_nan
finite_no_nan nan h = h
finite_no_nan (inf s) h = tt
finite_no_nan (fin s m e) h = tt

-- the four bytes of a pattern make it again
pub digits : (n : ℕ) → n % 256 + 256 * (n / 256 % 256) + 65536 * (n / 65536 % 256) + 16777216 * (n / 16777216) ≡ n
digits n = omega arith

-- a list of n elements from i on, by its elements
abbrev pub spell : ℕ → List ℕ → ℕ → List ℕ
spell zero s i = []
spell (suc n) s i = get_or s i 0 ∷ spell n s (suc i)

pub spelled : (n : ℕ) (s : List ℕ) (i : ℕ) → length s ≡ n + i → drop i s ≡ spell n s i
spelled zero s i e = drop_of_length-le s {i = i} (omega arith)
spelled (suc n) s i e = drop-cons s i 0 (omega arith) ∙ ap (λ (l : List ℕ). get_or s i 0 ∷ l) (spelled n s (suc i) (omega arith))

-- the first n of them
pub spelled_part : (n : ℕ) (s : List ℕ) (i : ℕ) → n + i ≤ length s → take n (drop i s) ≡ spell n s i
spelled_part zero s i h = refl
spelled_part (suc n) s i h =
    ap (take (suc n)) (drop-cons s i 0 (omega arith)) ∙ ap (λ (l : List ℕ). get_or s i 0 ∷ l) (spelled_part n s (suc i) (omega arith))

-- only a NaN differs from itself
pub nan_pattern : (x : Float) → ne x x ≡ true → 2143289344 ≡ to_bits binary32 x
unfolding to_bits
nan_pattern x h = ap (to_bits binary32) (sym (differs_from_itself x (subst T (sym h) tt)))

pub equal_no_nan : (x : Float) → ne x x ≡ false → T (not (is_nan x))
unfolding is_nan ne
equal_no_nan nan h = subst T h tt
equal_no_nan (inf s) h = tt
equal_no_nan (fin s m e) h = tt

is_nan_lem : (x : Float) → is_nan x ≡ true → x ≡ nan
unfolding is_nan
is_nan_lem nan h = refl
is_nan_lem (inf s) h = absurd (subst T (sym h) tt)
is_nan_lem (fin s m e) h = absurd (subst T (sym h) tt)

zero_over_zero : div binary32 (of_bits binary32 0) (of_bits binary32 0) ≡ nan
unfolding div of_bits
zero_over_zero = refl

-- 0.0 / 0.0 is the float of every NaN's pattern
pub quotient_is_nan : (n : ℕ) → nan_bits binary32 n ≡ true → div binary32 (of_bits binary32 0) (of_bits binary32 0) ≡ of_bits binary32 n
quotient_is_nan n h = zero_over_zero ∙ sym (is_nan_lem (of_bits binary32 n) (sym (nan_bits_is binary32 n) ∙ h))
