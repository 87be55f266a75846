-- Wrong answers that the promises refuse, each by evaluation. Assumes nothing.
use Prim.Native.Nat.{ℕ}
use native.Mathlib.Omega.{arith}
use mathlib.Core.Path.{◌≡◌, ap, refl, sym, ◌∙◌}
use mathlib.Core.List.{List, [], ◌∷◌}
use lib.ListN.{get_or}
use Rattle.number.proofs.Apart.{unlike}
use Rattle.answer.specs.Refusals.{refusal_of}
use Rattle.vector.specs.Axes.{places_of}
use Rattle.vector.specs.Mounting.{mounting_of}
use Rattle.std.specs.declared.result.Result.TheVariants.{Ok, Err}
use Rattle.answer.specs.declared.refusal.Refusal.TheVariants.{Unknown}
use Rattle.remap.specs.declared.mounting.Mounting.{Mounting}
use Rattle.remap.specs.Counted.{Counted}
use Rattle.remap.specs.First.{first}
use Rattle.remap.specs.Given.{Gives}
use Rattle.remap.specs.Names.{name_of, same, named_by, read_checks, NameWritten}
use Rattle.remap.specs.Composition.{compose_of, inverse_of, compose_checks, inverse_checks}

-- ---- a mounting

-- 23 refused; 24 taken; the next mounting
pub of_try_from
    : (Counted 23 (Err Unknown) → ⊥)
    × ((m : Mounting) → Counted 24 (Ok m) → ⊥)
    × ((m : Mounting) → m.number ≡ 1 → Counted 0 (Ok m) → ⊥)
unfolding refusal_of
of_try_from = (
  λ h. unlike 4 0 refl h.0,
  λ m h. unlike 0 4 refl h.0,
  λ m e h. unlike 1 0 refl (sym e ∙ h.1),
)

-- those of the mounting that undoes it; the signs lost
pub of_axes : (2049 ≡ places_of 11 → ⊥) × (34 ≡ places_of 4 → ⊥)
unfolding mounting_of
of_axes = (λ h. unlike 2049 1088 refl h, λ h. unlike 34 3109 refl h)

-- the next name; `+X+Y-Z` for `-X+Y-Z`, a sign lost
pub of_name : (name_of 1 ≡ name_of 0 → ⊥) × (43 ∷ 88 ∷ 43 ∷ 89 ∷ 45 ∷ 90 ∷ [] ≡ name_of 4 → ⊥)
unfolding name_of mounting_of
of_name = (λ h. unlike 45 43 refl (ap (λ (l : List ℕ). get_or l 2 0) h), λ h. unlike 43 45 refl (ap (λ (l : List ℕ). get_or l 0 0) h))

-- ---- names

abbrev blank : List ℕ
blank = 0 ∷ 0 ∷ 0 ∷ 0 ∷ 0 ∷ 0 ∷ []

-- the next name; 24 taken; a refused call that writes
pub of_write_name : (NameWritten 0 blank (name_of 1) 0 → ⊥) × (NameWritten 24 blank blank 0 → ⊥) × (NameWritten 24 blank (name_of 0) 4 → ⊥)
unfolding refusal_of name_of mounting_of
of_write_name = (
  λ h. unlike 45 43 refl (ap (λ (l : List ℕ). get_or l 2 0) h.holds),
  λ h. let e = h.number in omega arith,
  λ h. unlike 43 0 refl (ap (λ (l : List ℕ). get_or l 0 0) h.holds),
)

-- `-X+Y+Z`, which is no mounting
abbrev mirrored : List ℕ
mirrored = 45 ∷ 88 ∷ 43 ∷ 89 ∷ 43 ∷ 90 ∷ []

-- a name refused; the same answer for every name; a mirrored name taken
pub of_read_name
    : (Gives (read_checks (name_of 11)) (named_by (name_of 11)) (Err Unknown) → ⊥)
    × (Gives (read_checks (name_of 11)) (named_by (name_of 11)) (Ok 0) → ⊥)
    × (Gives (read_checks mirrored) (named_by mirrored) (Ok 0) → ⊥)
unfolding refusal_of first same name_of mounting_of
of_read_name = (
  λ h. let e = h.exact in let z : ◌≡◌ {A = ℕ} 0 1 = cc in omega arith,
  λ h. let e = h.exact in let z : ◌≡◌ {A = ℕ} 0 1 = cc in omega arith,
  λ h. let e = h.exact in let z : ◌≡◌ {A = ℕ} 0 1 = cc in omega arith,
)

-- ---- one after another

-- the second first; 24 taken for 0
pub of_compose : (Gives (compose_checks 1 11) (compose_of 1 11) (Ok 8) → ⊥) × (Gives (compose_checks 24 0) (compose_of 24 0) (Ok 0) → ⊥)
unfolding refusal_of compose_of first same name_of mounting_of
of_compose =
    (λ h. let e = h.exact in let z : ◌≡◌ {A = ℕ} 0 1 = cc in omega arith, λ h. let e = h.exact in let z : ◌≡◌ {A = ℕ} 0 1 = cc in omega arith)

-- the inverse of 11 as if only signs counted; a refusal of 0
pub of_inverse : (Gives (inverse_checks 11) (inverse_of 11) (Ok 11) → ⊥) × (Gives (inverse_checks 0) (inverse_of 0) (Err Unknown) → ⊥)
unfolding refusal_of inverse_of compose_of first same name_of mounting_of
of_inverse =
    (λ h. let e = h.exact in let z : ◌≡◌ {A = ℕ} 0 1 = cc in omega arith, λ h. let e = h.exact in let z : ◌≡◌ {A = ℕ} 0 1 = cc in omega arith)
