-- The digits of a mounting's axes are its places, and reading a vector by them turns it; and the table's law of both refusals. Assumes nothing.
use mathlib.Core.Path.{◌≡◌, refl, ap, sym, ◌∙◌}
use mathlib.Core.Bool.{Bool, true, false, not, cond, false≢true}
use Prim.Native.Nat.{ℕ, ◌+◌, ◌*◌, ◌/◌, ◌%◌, ◌<◌}
use native.Mathlib.Omega.{arith}
use mathlib.Core.List.{map}
use lib.Dec.{ltb}
use lib.Ieee.{nan, neg}
use lib.ListN.{get_or}
use Rattle.answer.specs.declared.Answer.{Answer}
use Rattle.answer.specs.declared.Answer.TheVariants.{Refused}
use Rattle.answer.specs.declared.refusal.Refusal.TheVariants.{Unknown, NotFinite}
use Rattle.answer.specs.Refusals.{ascends}
use Rattle.answer.specs.Promises.{Answers}
use Rattle.answer.proofs.Answering.{fails, passes, all_pass, refuses, gives}
use Rattle.answer.proofs.Table.{by_the_table}
use Rattle.answer.proofs.Tests.{one}
use Rattle.std.specs.Prelude.{Option, Some, None}
use Rattle.vector.specs.declared.Vector.{Vector}
use Rattle.vector.specs.Axes.{place_of, signed_axes, places, axes_of}
use Rattle.vector.specs.Inner.{signed_of, read_by, Within}
use Rattle.vector.specs.Mounting.{Signed, Px, Py, Pz, Nx, Ny, Nz, Mounting, mounting_of, read, turn, turn_of}
use Rattle.vector.specs.Turned.{turn_checks, turned_answer, ExactlyWhen}
use Rattle.vector.specs.Vectors.{finite_vector}

-- ---- digits and places

pub place : (s : Signed) → place_of s < 6
place Px = omega arith
place Py = omega arith
place Pz = omega arith
place Nx = omega arith
place Ny = omega arith
place Nz = omega arith

-- what a list has of each signed axis stands at its place
pub at_place : {A : Type 0} (f : Signed → A) (d : A) (s : Signed) → get_or (map f signed_axes) (place_of s) d ≡ f s
at_place f d Px = refl
at_place f d Py = refl
at_place f d Pz = refl
at_place f d Nx = refl
at_place f d Ny = refl
at_place f d Nz = refl

-- the digits of three places
abbrev pub Digits : ℕ → ℕ → ℕ → ℕ → Type 0
Digits n a b c = (n / 1024 ≡ a) × (n / 32 % 32 ≡ b) × (n % 32 ≡ c)

digits : (a b c : ℕ) → a < 6 → b < 6 → c < 6 → Digits (a * 1024 + b * 32 + c) a b c
digits a b c h k l = (omega arith, omega arith, omega arith)

signed : (v : Vector) (s : Signed) → get_or (signed_of v) (place_of s) nan ≡ read neg v.x v.y v.z s
signed v Px = refl
signed v Py = refl
signed v Pz = refl
signed v Nx = refl
signed v Ny = refl
signed v Nz = refl

module _ (m : Mounting) where
  pub own : Digits (places m) (place_of m.x) (place_of m.y) (place_of m.z)
  own = digits _ _ _ (place m.x) (place m.y) (place m.z)

  pub within : Within (places m)
  within = let (p, q, r) = own in (omega (arith, place m.x), omega (arith, place m.y), omega (arith, place m.z))

  pub reads : (v : Vector) → read_by (places m) v ≡ turn m v
  reads v = λ i. record { x = axis m.x own.0 i; y = axis m.y own.1 i; z = axis m.z own.2 i }
    where
      axis : {n : ℕ} (s : Signed) → n ≡ place_of s → get_or (signed_of v) n nan ≡ read neg v.x v.y v.z s
      axis s e = ap (λ (k : ℕ). get_or (signed_of v) k nan) e ∙ signed v s

-- ---- what each return of the turn has to show

abbrev is_some : Option ℕ → Bool
is_some None = false
is_some (Some a) = true

-- no mounting has the number
beyond : (n : ℕ) → None ≡ axes_of n → ltb 23 n ≡ true
beyond n e = go (ltb 23 n) (ap is_some e)
  where
    go : (b : Bool) → false ≡ is_some (cond b None (Some (places (mounting_of n)))) → b ≡ true
    go true g = refl
    go false g = absurd (false≢true g)

-- a mounting has it, with these places
pub numbered : (n : ℕ) {a : ℕ} → Some a ≡ axes_of n → (ltb 23 n ≡ false) × (a ≡ places (mounting_of n))
numbered n {a} e = go (ltb 23 n) refl e
  where
    the : Option ℕ → ℕ
    the None = a
    the (Some b) = b

    go : (b : Bool) → ltb 23 n ≡ b → Some a ≡ cond b None (Some (places (mounting_of n))) → (ltb 23 n ≡ false) × (a ≡ places (mounting_of n))
    go true f g = absurd (false≢true (sym (ap is_some g)))
    go false f g = (f, ap the g)

module _ (v : Vector) (n : ℕ) where
  abbrev Turns : Answer → Type 0
  Turns r = Answers (turn_checks v n) (turned_answer (turn_of n v)) r

  pub no_mounting : None ≡ axes_of n → Turns (Refused Unknown)
  no_mounting e = refuses _ _ refl Unknown (sym (fails 4 _ (beyond n e)))

  module _ {a : ℕ} (e : Some a ≡ axes_of n) {b : Bool} (f : b ≡ finite_vector v) where
    pub not_finite : not b ≡ true → Turns (Refused NotFinite)
    not_finite g = refuses _ _ refl NotFinite (sym (passes 4 _ (numbered n e).0 ∙ fails 5 _ (one f g)))

    pub turns : not b ≡ false → {r : Answer} → r ≡ turned_answer (read_by a v) → Turns r
    turns g {r} k =
        let (few, its) = numbered n e in
        let w = ap (λ (n : ℕ). read_by n v) its ∙ reads (mounting_of n) v in
        gives _ _ refl (sym (passes 4 _ few ∙ passes 5 _ (one f g) ∙ all_pass)) (k ∙ ap turned_answer w)

-- ---- the refusals

pub exactly_when : ExactlyWhen
unfolding ascends
exactly_when v n = by_the_table (turn_checks v n) tt
