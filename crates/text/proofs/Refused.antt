-- The line of a refusal: 10 bytes for a number of the table, 12 at most for any byte; and the last line of a log. Assumes nothing.
use Prim.Native.Nat.{ℕ, zero, suc, ◌+◌, ◌≤◌, ◌<◌}
use native.Mathlib.Omega.{arith}
use mathlib.Core.Path.{◌≡◌, refl, ap, sym}
use mathlib.Core.List.{List}
use lib.ListN.{length}
use Rattle.text.specs.Text.{decimal_of, named_of, refused_word, refused_of, last_line}
use Rattle.text.specs.Putting.{Puts, Fits}
use Rattle.text.proofs.Putting.{puts_nothing, fits_put, put_fits, fits_as}
use Rattle.text.proofs.Digits.{one, three}
use Rattle.text.proofs.Named.{named_long}

long : (n : ℕ) → length (refused_of n) ≡ 9 + length (decimal_of n)
unfolding refused_of named_of
long n = named_long refused_word n

pub ten : (n : ℕ) → n < 10 → length (refused_of n) ≡ 10
ten n h = omega (arith, long n, one n h)

byte_long : (n : ℕ) → n < 256 → length (refused_of n) ≤ 12
byte_long n h = omega (arith, long n, three n (omega arith))

-- so its line stands where there are ten bytes, and that of any byte where there are twelve
pub puts_low : (k : ℕ) (old : List ℕ) {after : List ℕ} {n : ℕ} → k < 10 → 10 ≤ length old
    → Fits (refused_of k) old after n → Puts (refused_of k) old after n
puts_low k old h room f = fits_put (refused_of k) old (omega (arith, ten k h)) f

pub puts_byte : (k : ℕ) (old : List ℕ) {after : List ℕ} {n : ℕ} → k < 256 → 12 ≤ length old
    → Fits (refused_of k) old after n → Puts (refused_of k) old after n
puts_byte k old h room f = fits_put (refused_of k) old (omega (arith, byte_long k h)) f

-- ---- the last line

pub no_last : (old : List ℕ) {k : ℕ} → k ≡ 0 → Fits (last_line k) old old 0
no_last old e = fits_as (ap last_line (sym e)) (put_fits _ old (omega arith) (puts_nothing old))

pub is_last : (k : ℕ) {old after : List ℕ} {n : ℕ} → (k ≡ 0 → ⊥) → Fits (refused_of k) old after n → Fits (last_line k) old after n
is_last zero h f = absurd (h refl)
is_last (suc k) h f = f

pub last_long : (k : ℕ) → k < 256 → length (last_line k) ≤ 12
last_long zero h = omega arith
last_long (suc k) h = byte_long (suc k) h

pub puts_last : (k : ℕ) (old : List ℕ) {after : List ℕ} {n : ℕ} → k < 256 → 12 ≤ length old
    → Fits (last_line k) old after n → Puts (last_line k) old after n
puts_last k old h room f = fits_put (last_line k) old (omega (arith, last_long k h)) f
