-- `root::sqrtf` meets its contract: a float above zero is the infinity or has the bits of a finite number, and the others are the zeros, the
-- negative numbers and the NaNs.
use mathlib.Core.Path.{◌≡◌, refl, sym, ap, ◌∙◌, subst}
use mathlib.Core.Bool.{Bool, true, false, ◌&&◌, true≢false, false≢true}
use Prim.Native.Nat.{ℕ, zero, suc, ◌*◌, ◌≤◌, ◌<◌}
use native.Mathlib.Nat.{not-le_of_lt, mul-pos, lt_irrefl, zero-lt-suc}
use native.Mathlib.Omega.{arith}
use lib.IntN.{ℤ}
use lib.Ieee.{Float, nan, inf, fin, binary32, up, down, lt, eq, level, div, fits, of_bits, to_bits}
use lib.Ieee.Fits.{up_pos}
use borrow.Author.Tests.{ltb-true, ltb-false, eqb-true}
use Rattle.root.specs.Root.{sqrt_of, root_bits_of, Root}
use Rattle.root.proofs.Nearest.{nearest}
use Rattle.root.proofs.Scaled.{Finite, root_bits_range}
use Rattle.root.proofs.Patterns.{bits_lt, bits_pos, no_nan_bits}
use Rattle.root.proofs.sqrtf.Goals as goal

data Above : Float → Type 0 where
  infinite : Above (inf false)
  finite : (m : ℕ) (e : ℤ) → Above (fin false (suc m) e)

none_below : (u d : ℕ) → 0 * 1 * d < 0 * u * 1 → ⊥
none_below u d h = omega arith

above : (x : Float) → lt (of_bits binary32 0) x ≡ true → Above x
unfolding lt of_bits
above nan h = absurd (false≢true h)
above (inf true) h = absurd (false≢true h)
above (inf false) h = infinite
above (fin true m e) h = absurd (false≢true h)
above (fin false zero e) h = absurd (none_below (up e) (down e) (ltb-true _ _ h))
above (fin false (suc m) e) h = finite m e

in_range : {x : Float} → Above x → fits binary32 x ≡ true → to_bits binary32 x < 0x7f80_0000 → Finite (to_bits binary32 x)
unfolding to_bits
in_range infinite f h = absurd (lt_irrefl _ h)
in_range (finite m e) f h = (bits_pos m e (rw f tt), h)

the_root : {x : Float} → Above x → to_bits binary32 x < 0x7f80_0000 → of_bits binary32 (root_bits_of (to_bits binary32 x)) ≡ sqrt_of x
unfolding to_bits sqrt_of
the_root infinite h = absurd (lt_irrefl _ h)
the_root (finite m e) h = refl

the_infinity : {x : Float} → Above x → fits binary32 x ≡ true → 0x7f80_0000 ≤ to_bits binary32 x → x ≡ sqrt_of x
unfolding sqrt_of
the_infinity infinite f h = refl
the_infinity (finite m e) f h = absurd (not-le_of_lt (bits_lt m e (rw f tt)) h)

not_none : (m u d : ℕ) → 0 < u → suc m * u * 1 ≡ 0 * 1 * d → ⊥
not_none m u d p h = lt_irrefl 0 (subst (λ (x : ℕ). 0 < x) (flat (suc m * u) d h) (mul-pos (zero-lt-suc m) p))
  where
    flat : (a d : ℕ) → a * 1 ≡ 0 * 1 * d → a ≡ 0
    flat a d h = omega arith

first : (a b : Bool) → a && b ≡ true → a ≡ true
first true b h = refl
first false b h = h

the_zero : (x : Float) → eq x (of_bits binary32 0) ≡ true → x ≡ sqrt_of x
unfolding eq of_bits sqrt_of
the_zero nan h = absurd (false≢true h)
the_zero (inf s) h = absurd (false≢true h)
the_zero (fin s zero e) h = refl
the_zero (fin s (suc m) e) h = absurd (not_none m (up e) (down e) (up_pos e) (eqb-true _ _ (first _ _ h)))

zeros_level : (s : Bool) (a b : ℕ) → a ≡ 0 → b ≡ 0 → level s a false b ≡ true
zeros_level true a b p q = rw (p, q)
zeros_level false a b p q = rw (p, q)

some_below : (m u d : ℕ) → 0 < u → suc m * u * 1 ≤ 0 * 1 * d → ⊥
some_below m u d p h = flat (suc m * u) d (mul-pos (zero-lt-suc m) p) h
  where
    flat : (a d : ℕ) → 0 < a → a * 1 ≤ 0 * 1 * d → ⊥
    flat a d p h = omega arith

the_rest : (x : Float) → lt (of_bits binary32 0) x ≡ false → eq x (of_bits binary32 0) ≡ false
    → div binary32 (of_bits binary32 0) (of_bits binary32 0) ≡ sqrt_of x
unfolding lt eq of_bits sqrt_of div
the_rest nan h k = refl
the_rest (inf true) h k = refl
the_rest (inf false) h k = absurd (true≢false h)
the_rest (fin s zero e) h k = absurd (true≢false (sym (zeros_level s (0 * up e * 1) (0 * 1 * down e) (omega arith) (omega arith)) ∙ k))
the_rest (fin true (suc m) e) h k = refl
the_rest (fin false (suc m) e) h k = absurd (some_below m (up e) (down e) (up_pos e) (ltb-false _ _ h))

-- what is `sqrt_of x` is the root of x
both : (x : Float) {r : Float} → fits binary32 x ≡ true → r ≡ sqrt_of x → (r ≡ sqrt_of x) × Root x r
both x f e = (e, subst (Root x) (sym e) (nearest x (rw f tt)))

pub invariant_of-root_bits : goal.invariant_of-root_bits
invariant_of-root_bits c = record { in_range = in_range (above _ c.if-x.true) c.well_formed.0.1 (omega (arith, c.if-b-lt2139095040.true)) }

pub float_from_bits-result : goal.float_from_bits-result
float_from_bits-result c =
    let at : Finite (to_bits binary32 c.args.x) = in_range (above _ c.if-x.true) c.well_formed.0.1 (omega (arith, c.if-b-lt2139095040.true)) in
    no_nan_bits _ (omega (arith, c.root_bits.ensures, (root_bits_range _ at).1))

pub returns-then-b-lt2139095040 : goal.returns-then-b-lt2139095040
returns-then-b-lt2139095040 c =
    let h = the_root (above _ c.if-x.true) (omega (arith, c.if-b-lt2139095040.true)) in
    let p = both c.args.x c.well_formed.0.1 (ap (of_bits binary32) c.root_bits.ensures ∙ h) in
    record { value = p.0; nearest = p.1 }

pub returns-else-b-lt2139095040 : goal.returns-else-b-lt2139095040
returns-else-b-lt2139095040 c =
    let h = the_infinity (above _ c.if-x.true) c.well_formed.0.1 (omega (arith, c.if-b-lt2139095040.false)) in
    let p = both c.args.x c.well_formed.0.1 h in
    record { value = p.0; nearest = p.1 }

pub returns-then-x-2 : goal.returns-then-x-2
returns-then-x-2 c =
    let p = both c.args.x c.well_formed.0.1 (the_zero c.args.x c.if-x-2.true) in
    record { value = p.0; nearest = p.1 }

pub returns-else-x-2 : goal.returns-else-x-2
returns-else-x-2 c =
    let p = both c.args.x c.well_formed.0.1 (the_rest c.args.x c.if-x.false c.if-x-2.false) in
    record { value = p.0; nearest = p.1 }
