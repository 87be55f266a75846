-- What the returns of both calls have to show, from the tests that led to them. Assumes nothing.
use Prim.Native.Nat.{ℕ}
use mathlib.Core.Path.{◌≡◌, refl, ap, sym, ◌∙◌}
use mathlib.Core.Bool.{Bool, true, false, not}
use mathlib.Core.List.{[]}
use lib.Dec.{ltb}
use Rattle.answer.specs.Said.{alone}
use Rattle.answer.specs.Refusals.{refusal_of}
use Rattle.answer.specs.Rows.{row_of}
use Rattle.remap.specs.Counted.{number_checks}
use Rattle.answer.specs.declared.Answer.{Answer}
use Rattle.answer.specs.declared.Answer.TheVariants.{Refused}
use Rattle.answer.specs.Promises.{Answers}
use Rattle.answer.proofs.Answering.{fails, passes, all_pass, refuses, gives, gives_result, is_row, unfailed}
use Rattle.answer.proofs.Tests.{one}
use Rattle.vector.specs.declared.Vector.{Vector}
use Rattle.vector.specs.Axes.{places_of}
use Rattle.vector.specs.Turned.{turn_checks, turned_answer}
use Rattle.vector.specs.Vectors.{finite_vector}
use Rattle.math.specs.declared.matrix.Matrix.{Matrix}
use Rattle.math.specs.Matrices.{mul_vector_of}
use Rattle.std.specs.declared.result.Result.{Result}
use Rattle.std.specs.declared.result.Result.TheVariants.{Ok}
use Rattle.answer.specs.declared.refusal.Refusal.{Refusal}
use Rattle.answer.specs.declared.refusal.Refusal.TheVariants.{NotFinite}
use Rattle.alignment.specs.Matrix.{to_matrix_of, rotate_of, matrix_checks, Gives}
use Rattle.alignment.specs.Inner.{matrix_by}
use Rattle.alignment.proofs.Reading.{its_matrix}

module _ (n : ℕ) where
  abbrev ToMatrix : Result Matrix Refusal → Type 0
  ToMatrix r = Gives (matrix_checks n) (to_matrix_of n) r

  pub matrix : {k : ℕ} → k ≡ n → 0 ≡ refusal_of (matrix_checks n) → {a : ℕ} → a ≡ places_of k → {m : Matrix} → m ≡ matrix_by a → ToMatrix (Ok m)
  matrix i f e g = gives_result alone _ _ f (ap Ok (its_matrix i e g))

module _ (v : Vector) (n : ℕ) where
  abbrev Rotates : Answer → Type 0
  Rotates r = Answers (turn_checks v n) (turned_answer (rotate_of n v)) r

  pub no_mounting : (e : Refusal) → row_of e ≡ refusal_of (number_checks n) → Rotates (Refused e)
  no_mounting e f = go (ltb 23 n) refl
    where
      go : (b : Bool) → ltb 23 n ≡ b → Rotates (Refused e)
      go true g = refuses _ _ refl e (f ∙ fails 4 _ g ∙ sym (fails 4 _ g))
      go false g = absurd (is_row e (f ∙ passes 4 _ g ∙ all_pass))

  module _ (f : 0 ≡ refusal_of (number_checks n)) {b : Bool} (e : b ≡ finite_vector v) where
    below : ltb 23 n ≡ false
    below = (unfailed 3 (ltb 23 n) [] (sym f)).0

    pub not_finite : not b ≡ true → Rotates (Refused NotFinite)
    not_finite g = refuses _ _ refl NotFinite (sym (passes 4 _ below ∙ fails 5 _ (one e g)))

    pub rotated : not b ≡ false → {k : ℕ} → k ≡ n → {a : ℕ} → a ≡ places_of k → {m : Matrix} → m ≡ matrix_by a
        → {w : Vector} → w ≡ mul_vector_of m v → Rotates (turned_answer w)
    unfolding rotate_of
    rotated g i p {m} q r =
        let none = passes 4 _ below ∙ passes 5 _ (one e g) ∙ all_pass in
        gives _ _ refl (sym none) (ap turned_answer (r ∙ ap (λ (k : Matrix). mul_vector_of k v) (its_matrix i p q)))
