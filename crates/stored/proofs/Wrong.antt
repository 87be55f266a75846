-- Wrong answers that the promises refuse, each by evaluation. Assumes nothing.
use Rattle.std.specs.Prelude.{ℕ, ◌+◌, ◌≤◌, ◌<◌, ◌≡◌, ◌↔◌, List, [], ◌∷◌, ◌++◌, Option, Some, IsNone, IfSome, length, take, drop, replicate, get_or}
use Rattle.std.proofs.Common.{arith, ap, sym, ◌∙◌}
use Rattle.wire.specs.Wire.{u16_at}
use Rattle.stored.specs.declared.Fed.{Fed}
use Rattle.stored.specs.declared.Stored.{Stored}
use Rattle.stored.specs.declared.Tried.{Tried}

-- a name of 32 dashes, the length 3 and a log of 3 bytes; the same a byte short; and with two bytes behind it
abbrev whole : List ℕ
whole = replicate 32 45 ++ (3 ∷ 0 ∷ 7 ∷ 8 ∷ 9 ∷ [])

abbrev short : List ℕ
short = replicate 32 45 ++ (3 ∷ 0 ∷ 7 ∷ 8 ∷ [])

abbrev more : List ℕ
more = whole ++ (1 ∷ 2 ∷ [])

-- nothing of an input that is just long enough; a log of one that is a byte short
-- the name a byte short; the length taken with it
-- the log from its length on; up to the end of the input
-- the rest from the log on; with its first byte lost; the whole input, which is no shorter
pub of_first
    : ((r : Option Stored) → IsNone r → (IsNone r ↔ (length whole < 34 + u16_at whole 32)) → ⊥)
    × ((r : Option Stored) → (IsNone r → ⊥) → (IsNone r ↔ (length short < 34 + u16_at short 32)) → ⊥)
    × ((s : Stored) → s.name.now ≡ take 31 more → IfSome (Some s) (λ (s : Stored). s.name.now ≡ take 32 more) → ⊥)
    × ((s : Stored) → s.name.now ≡ take 34 more → IfSome (Some s) (λ (s : Stored). s.name.now ≡ take 32 more) → ⊥)
    × ((s : Stored) → s.log.now ≡ take 3 (drop 32 more) → IfSome (Some s) (λ (s : Stored). s.log.now ≡ take (u16_at more 32) (drop 34 more)) → ⊥)
    × ((s : Stored) → s.log.now ≡ drop 34 more → IfSome (Some s) (λ (s : Stored). s.log.now ≡ take (u16_at more 32) (drop 34 more)) → ⊥)
    × ((s : Stored) → s.rest.now ≡ drop 34 more → IfSome (Some s) (λ (s : Stored). s.rest.now ≡ drop (u16_at more 32) (drop 34 more)) → ⊥)
    × ((s : Stored) → s.rest.now ≡ drop 38 more → IfSome (Some s) (λ (s : Stored). s.rest.now ≡ drop (u16_at more 32) (drop 34 more)) → ⊥)
    × ((s : Stored) → s.rest.now ≡ more → IfSome (Some s) (λ (s : Stored). length s.rest.now < length more) → ⊥)
of_first = (
  λ r is h. let e : 37 < 37 = h.0 is in omega arith,
  λ r isnt h. isnt (h.1 (omega arith)),
  λ s e h. let z : ◌≡◌ {A = ℕ} 31 32 = ap length (sym e ∙ h) in omega arith,
  λ s e h. let z : ◌≡◌ {A = ℕ} 34 32 = ap length (sym e ∙ h) in omega arith,
  λ s e h. let z : ◌≡◌ {A = ℕ} 3 7 = ap (λ (xs : List ℕ). get_or xs 0 0) (sym e ∙ h) in omega arith,
  λ s e h. let z : ◌≡◌ {A = ℕ} 5 3 = ap length (sym e ∙ h) in omega arith,
  λ s e h. let z : ◌≡◌ {A = ℕ} 5 2 = ap length (sym e ∙ h) in omega arith,
  λ s e h. let z : ◌≡◌ {A = ℕ} 1 2 = ap length (sym e ∙ h) in omega arith,
  λ s e h. let z : length s.rest.now ≡ length more = ap length e in omega (arith, h),
)

-- of lines that have no room, one byte; a byte more than the room
pub of_try_log : ((t : Tried) → t.n ≡ 1 → t.n ≤ length {A = ℕ} [] → ⊥) × ((t : Tried) (lines : List ℕ) → t.n ≡ length lines + 1 → t.n ≤ length lines → ⊥)
of_try_log = (λ t e h. omega (arith, e, h), λ t lines e h. omega (arith, e, h))

-- what a machine is fed, and the end of a log: one byte where there is no room; a byte more than the room
pub of_feed
    : ((M : Type 0) (f : Fed M) → f.n ≡ 1 → f.n ≤ length {A = ℕ} [] → ⊥)
    × ((M : Type 0) (f : Fed M) (out : List ℕ) → f.n ≡ length out + 1 → f.n ≤ length out → ⊥)
of_feed = (λ M f e h. omega (arith, e, h), λ M f out e h. omega (arith, e, h))

pub of_last : (1 ≤ length {A = ℕ} [] → ⊥) × ((out : List ℕ) → length out + 1 ≤ length out → ⊥)
of_last = (λ h. omega (arith, h), λ out h. omega (arith, h))
