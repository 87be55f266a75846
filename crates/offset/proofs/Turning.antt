-- A vector that was checked is turned, and not refused; and turning keeps it finite. Assumes nothing.
use Prim.Native.Nat.{ℕ, ◌<◌}
use native.Mathlib.Omega.{arith}
use mathlib.Core.Path.{◌≡◌, ap, ◌∙◌}
use mathlib.Core.Bool.{true, not}
use borrow.Author.Tests.{le-ltb}
use Rattle.std.specs.declared.result.Result.{Result}
use Rattle.std.specs.declared.result.Result.TheVariants.{Ok}
use Rattle.answer.specs.declared.Answer.{Answer}
use Rattle.answer.specs.declared.refusal.Refusal.{Refusal}
use Rattle.answer.specs.Promises.{Answers}
use Rattle.answer.proofs.Answering.{passes, all_pass, is_new}
use Rattle.vector.specs.declared.Vector.{Vector}
use Rattle.vector.specs.Vectors.{finite_vector}
use Rattle.vector.specs.Mounting.{mounting_of, turn_of}
use Rattle.vector.specs.Turned.{turn_checks, turned_answer}
use Rattle.vector.proofs.Turning.{each_permutes, turned_turn, finite_turned}
use Rattle.remap.specs.Composition.{inverse_of, inverse_checks}
use Rattle.remap.specs.Given.{Gives}
use Rattle.remap.proofs.Composing.{undone}
use Rattle.offset.specs.Restore.{reframed_of}

-- ---- one turn

pub is_turned : (v : Vector) (m : ℕ) {r : Answer} → m < 24 → finite_vector v ≡ true → Answers (turn_checks v m) (turned_answer (turn_of m v)) r
    → r ≡ turned_answer (turn_of m v)
is_turned v m h f a =
    is_new _ _ a.exact (passes 4 _ (le-ltb 23 m (omega arith)) ∙ passes 5 _ (ap not f) ∙ all_pass)

pub turn_finite : (m : ℕ) (v : Vector) → finite_vector (turn_of m v) ≡ finite_vector v
turn_finite m v = finite_turned (mounting_of m) (each_permutes m) (turned_turn (mounting_of m) v)

-- ---- undone, and then turned

pub is_inverse : {n : ℕ} {r : Result ℕ Refusal} → n < 24 → Gives (inverse_checks n) (inverse_of n) r → r ≡ Ok (inverse_of n)
is_inverse {n} h g = is_new _ _ g.exact (passes 4 _ (le-ltb 23 n (omega arith)) ∙ all_pass)

pub inverse_number : {n : ℕ} {r : Result ℕ Refusal} {i : ℕ} → n < 24 → Gives (inverse_checks n) (inverse_of n) r → r ≡ Ok i → i ≡ inverse_of n
inverse_number h g e = let j = is_inverse h g in cc

pub inverse_below : {n i : ℕ} (v : Vector) → n < 24 → i ≡ inverse_of n → i < 24
inverse_below {n} v h e = omega (arith, (undone n v h).0)

pub reframes : (v : Vector) (from to : ℕ) {u w : Vector} {i : ℕ} → i ≡ inverse_of from → u ≡ turn_of i v → w ≡ turn_of to u → w ≡ reframed_of v from to
unfolding reframed_of
reframes v from to e p q = q ∙ ap (turn_of to) (p ∙ ap (λ (k : ℕ). turn_of k v) e)

pub finite_reframed : (v : Vector) (from to : ℕ) → finite_vector (reframed_of v from to) ≡ finite_vector v
unfolding reframed_of
finite_reframed v from to = turn_finite to (turn_of (inverse_of from) v) ∙ turn_finite (inverse_of from) v
