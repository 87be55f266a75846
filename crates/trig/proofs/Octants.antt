-- The angle that is found has nearly the tangent: the guess where the test says so, and else the nearer end of one step. Assumes nothing.
use Rattle.std.proofs.Common.{◌≡◌, ℕ, ◌+◌, ◌-◌, ◌*◌, ◌<◌, ◌≤◌, Bool, true, false, cond, T, leb, sym, refl, subst, arith, le→leb, leb→le, le-leb, leb-false}
use Rattle.std.proofs.Common.{leb-true}
use lib.Ieee.Fits.{and_i, and_l, and_r}
use borrow.Author.Tests.{lt-leb}
use Rattle.trig.specs.declared.octant.Span.{Span}
use Rattle.trig.specs.Degrees.{apart}
use Rattle.trig.specs.Octant.{tangent_one, most, rise_of, run_of, off, is_level, guess_of, span_of, bisected_of, nearer_of, octant_of, Leveled}
use Rattle.trig.proofs.Neighbours.{both_off}
use Rattle.trig.proofs.Search.{Between, spanned, one_step}

-- what `is_level` says
pub record Level (p n : ℕ) : Type 0 where
  pub small : n ≤ most
  pub over : run_of p n ≤ rise_of n + off
  pub under : rise_of n ≤ run_of p n + off

pub level : (p n : ℕ) → T (is_level p n) → Level p n
level p n t =
    let a = leb→le n most (and_l (leb n most) (leb (apart (rise_of n) (run_of p n)) off) t) in
    let b = leb→le (apart (rise_of n) (run_of p n)) off (and_r (leb n most) (leb (apart (rise_of n) (run_of p n)) off) t) in
    record { small = a; over = omega arith; under = omega arith }

is_level_lem : (p n : ℕ) → Level p n → T (is_level p n)
is_level_lem p n l =
    and_i (leb n most) (leb (apart (rise_of n) (run_of p n)) off) (le→leb n most l.small)
    (le→leb (apart (rise_of n) (run_of p n)) off (omega (arith, l.over, l.under)))

-- what the ends of one step are off adds up to at most 700 units, so the nearer one is within 350
abbrev short : ℕ → Span → ℕ
short p s = run_of p s.lo - rise_of s.lo

abbrev past : ℕ → Span → ℕ
past p s = rise_of s.hi + 2 * tangent_one - run_of p s.hi

module _ (p : ℕ) (P : p ≤ tangent_one) (s : Span) (b : Between p s) (step : s.hi ≤ s.lo + 1) where
  next : s.hi ≡ s.lo + 1
  next = omega (arith, b.apart)

  sum : run_of p s.lo + rise_of s.hi ≤ run_of p s.hi + rise_of s.lo + 698 * tangent_one
  sum = rw next (both_off s.lo (omega (arith, b.apart, b.inside)) p P)

  by_test : (t : Bool) → leb (short p s) (past p s) ≡ t → Level p (cond t s.lo s.hi)
  by_test true e =
      let h : short p s ≤ past p s = leb-true _ _ e in
      record { small = omega (arith, b.apart, b.inside); over = omega (arith, sum, b.low, b.high); under = omega (arith, b.low) }
  by_test false e =
      let h : past p s < short p s = leb-false _ _ e in
      record { small = b.inside; over = omega (arith, b.high); under = omega (arith, sum, b.low, b.high) }

  nearer_level : Level p (nearer_of p s)
  unfolding nearer_of
  nearer_level = by_test (leb (short p s) (past p s)) refl

-- the nearer end is at most 45 degrees
pub nearer_small : (p : ℕ) → p ≤ tangent_one → nearer_of p (bisected_of p) ≤ most
nearer_small p P = (nearer_level p P (span_of p 22) (spanned p 22 P).between (one_step p P)).small

pub leveled : Leveled
unfolding octant_of
leveled p P = by_test (is_level p (guess_of p)) refl
  where
    bisected_level : T (is_level p (nearer_of p (bisected_of p)))
    bisected_level = is_level_lem p _ (nearer_level p P (span_of p 22) (spanned p 22 P).between (one_step p P))

    by_test : (t : Bool) → is_level p (guess_of p) ≡ t → T (is_level p (cond t (guess_of p) (nearer_of p (bisected_of p))))
    by_test true e = subst T (sym e) tt
    by_test false e = bisected_level

-- ---- what the calls come to

-- the test, of n that is at most 45 degrees
pub tested : (p n : ℕ) {a b d : ℕ} → n ≤ most → a ≡ rise_of n → b ≡ run_of p n → d ≡ apart a b → leb d off ≡ is_level p n
tested p n h rise run e = rw (e, rise, run, le-leb n most h)

module _ (p : ℕ) (s : Span) {a b c d : ℕ} (run-lo : a ≡ run_of p s.lo) (rise-lo : b ≡ rise_of s.lo)
    (rise-hi : c ≡ rise_of s.hi) (run-hi : d ≡ run_of p s.hi) where
  pub takes_lo : a - b ≤ c + 2 * tangent_one - d → s.lo ≡ nearer_of p s
  unfolding nearer_of
  takes_lo h = rw (le-leb (short p s) (past p s) (rw (run-lo, rise-lo, rise-hi, run-hi) at h))

  pub takes_hi : c + 2 * tangent_one - d < a - b → s.hi ≡ nearer_of p s
  unfolding nearer_of
  takes_hi h = rw (lt-leb (short p s) (past p s) (rw (run-lo, rise-lo, rise-hi, run-hi) at h))
