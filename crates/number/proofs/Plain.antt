-- x + 0.0 is x with the sign of a zero dropped, and what `plain` leaves. Assumes nothing.
use Rattle.std.proofs.Common.{◌≡◌, ℕ, zero, suc, ◌*◌, ◌<◌, Bool, true, false, T, ℤ, pos, refl, ◌∙◌, ap₂, true≢false, add-zero, zero-lt-suc, mul-pos, zero-mul}
use Rattle.std.proofs.Common.{mul-one, arith, eqb→eq}
use mathlib.Core.Bool.{false≢true}
use native.Mathlib.Nat.{sub-zero}
use lib.Dec.{leb-zero, leb-suc-suc, leb-suc-zero}
use lib.Ieee.{Float, nan, inf, fin, Format, up, down, round, sum, add, fits}
use lib.Ieee.Fits.{up_pos}
use Rattle.number.specs.Same.{plain, is_minus_zero}
use Rattle.number.proofs.Signs.{round_zero}
use Rattle.number.proofs.Size.{flat}
use Rattle.number.proofs.Exact.{round_own}

-- ---- x + 0.0

-- ±a / c plus zero, where a is none
sum_nought : (f : Format) (s : Bool) (a b c : ℕ) → 0 < a → b ≡ 0 → sum f s a false b c ≡ round f s a c
unfolding sum
sum_nought f s zero b c h z = absurd (omega arith)
sum_nought f true (suc a) b c h z = rw z (rw (leb-suc-zero (suc a), leb-suc-suc 0 a, leb-zero a, sub-zero))
sum_nought f false (suc a) b c h z = rw z (rw add-zero)

nought_plus : (f : Format) (s : Bool) (e : ℤ) → e ≡ pos 0 → add f (fin s 0 e) (fin false 0 (pos 0)) ≡ fin false 0 e
unfolding add sum
nought_plus f true e z = rw z (round_zero f false 1)
nought_plus f false e z = rw z (round_zero f false 1)

pub plus_zero : (f : Format) (x : Float) → T (fits f x) → add f x (fin false 0 (pos 0)) ≡ plain x
unfolding add fits plain
plus_zero f nan t = refl
plus_zero f (inf s) t = refl
plus_zero f (fin s zero e) t = nought_plus f s e (flat e (eqb→eq (up e * down e) 1 t))
plus_zero f (fin s (suc m) e) t =
    let a = suc m * up e in
    sum_nought f s (a * 1) _ _ (mul-pos (mul-pos (zero-lt-suc m) (up_pos e)) (zero-lt-suc 0)) (zero-mul (down e))
    ∙ ap₂ (λ (b c : ℕ). round f s b c) (mul-one a) (mul-one (down e))
    ∙ round_own f s m e t

-- ---- what `plain` leaves

pub plain_fits : (f : Format) (x : Float) → T (fits f x) → T (fits f (plain x))
unfolding fits plain
plain_fits f nan t = t
plain_fits f (inf s) t = t
plain_fits f (fin s zero e) t = t
plain_fits f (fin s (suc m) e) t = t

pub plain_plain : (x : Float) → plain (plain x) ≡ plain x
unfolding plain
plain_plain nan = refl
plain_plain (inf s) = refl
plain_plain (fin s zero e) = refl
plain_plain (fin s (suc m) e) = refl

pub plain_no_minus : (x : Float) → is_minus_zero (plain x) ≡ false
unfolding is_minus_zero plain
plain_no_minus nan = refl
plain_no_minus (inf s) = refl
plain_no_minus (fin s zero e) = refl
plain_no_minus (fin s (suc m) e) = refl

pub plain_stays : (x : Float) → is_minus_zero x ≡ false → plain x ≡ x
unfolding is_minus_zero plain
plain_stays nan h = refl
plain_stays (inf s) h = refl
plain_stays (fin true zero e) h = absurd (true≢false h)
plain_stays (fin false zero e) h = refl
plain_stays (fin s (suc m) e) h = refl

-- there is one minus zero
pub is_minus_zero_lem : (f : Format) (x : Float) → T (fits f x) → is_minus_zero x ≡ true → x ≡ fin true 0 (pos 0)
unfolding fits is_minus_zero
is_minus_zero_lem f nan t h = absurd (false≢true h)
is_minus_zero_lem f (inf s) t h = absurd (false≢true h)
is_minus_zero_lem f (fin s zero e) t h = ap₂ (λ (b : Bool) (d : ℤ). fin b 0 d) h (flat e (eqb→eq (up e * down e) 1 t))
is_minus_zero_lem f (fin s (suc m) e) t h = absurd (false≢true h)
