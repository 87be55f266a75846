-- The answer to a line, case by case, and that it can be printed. Assumes nothing.
use Prim.Native.Nat.{ℕ}
use native.Mathlib.Omega.{arith}
use mathlib.Core.Path.{◌≡◌, refl, ap, ap₂, sym, ◌∙◌}
use mathlib.Core.Bool.{Bool, true, false, not, ◌||◌, cond}
use mathlib.Core.List.{List, [], ◌∷◌}
use lib.Dec.{eqb, ltb}
use lib.Ieee.{nan}
use lib.ListN.{length, get_or, take, drop, length-drop}
use lib.Seq.{length-take-le}
use borrow.Author.Tests.{ltb-false}
use Rattle.answer.proofs.Tests.{agrees, differs, neither}
use Rattle.answer.specs.Refusals.{Check, check, refusal_of, accepted}
use Rattle.answer.proofs.Answering.{fails, passes, all_pass}
use Rattle.vector.specs.Vectors.{vector}
use Rattle.std.specs.declared.result.Result.TheVariants.{Ok, Err}
use Rattle.answer.specs.declared.refusal.Refusal.TheVariants.{Length, Unknown}
use Rattle.std.specs.declared.result.Result.{Result}
use Rattle.answer.specs.declared.refusal.Refusal.{Refusal}
use Rattle.answer.specs.Rows.{refusal_at}
use Rattle.remap.specs.Given.{given_of}
use Rattle.remap.specs.Names.{named_by, read_of}
use Rattle.remap.specs.Composition.{compose_of, compose_checks}
use Rattle.remap.proofs.Composing.{composes}
use Rattle.lines.specs.Rule.{first_name, second_name, line_checks, answer_of}
use Rattle.lines.specs.Inner.{Printable}

-- what the checks give is settled by their number
given : (k m : ℕ) (cs : List Check) → refusal_of cs ≡ k → accepted k (Ok m) (Err (refusal_at k)) ≡ given_of cs m
given k m cs e = ap (λ (j : ℕ). accepted j (Ok m) (Err (refusal_at j))) (sym e)

-- ---- the names, once there is room for them

read_by : (s : List ℕ) → length s ≡ 6 → read_of s ≡ cond (ltb 23 (named_by s)) (Err Unknown) (Ok (named_by s))
read_by s six = go (ltb 23 (named_by s)) (passes 1 _ (agrees (length s) 6 six))
  where
    go : (t : Bool) → refusal_of (check 1 (not (eqb (length s) 6)) ∷ check 4 t ∷ []) ≡ refusal_of (check 4 t ∷ [])
        → given_of (check 1 (not (eqb (length s) 6)) ∷ check 4 t ∷ []) (named_by s) ≡ cond t (Err Unknown) (Ok (named_by s))
    go true e = sym (given 4 (named_by s) _ (e ∙ fails 4 [] refl))
    go false e = sym (given 0 (named_by s) _ (e ∙ passes 4 [] refl ∙ all_pass))

-- ---- the cases of a line of n bytes

module _ (n : ℕ) (s : List ℕ) where
  pub malformed : (not (eqb n 13) || not (eqb (get_or s 6 0) 32)) ≡ true → Err Length ≡ answer_of n s
  unfolding answer_of
  malformed h = given 1 _ (line_checks n s) (fails 1 _ h)

  pub not_13 : (n ≡ 13 → ⊥) → Err Length ≡ answer_of n s
  not_13 h = malformed (rw (differs n 13 h))

  -- a line that is well formed: its answer, and what is read of its two names, by whether each is unknown
  module _ (l : length s ≡ 13) (h : (not (eqb n 13) || not (eqb (get_or s 6 0) 32)) ≡ false) where
    answered : (t : Bool) → (ltb 23 (first_name s) || ltb 23 (second_name s)) ≡ t
        → cond t (Err Unknown) (Ok (compose_of (first_name s) (second_name s))) ≡ answer_of n s
    unfolding answer_of
    answered true e = given 4 _ (line_checks n s) (passes 1 _ h ∙ fails 4 [] e)
    answered false e = given 0 _ (line_checks n s) (passes 1 _ h ∙ passes 4 [] e ∙ all_pass)

    first : read_of (take 6 s) ≡ cond (ltb 23 (first_name s)) (Err Unknown) (Ok (first_name s))
    first = read_by (take 6 s) (length-take-le 6 s (omega arith))

    second : read_of (take 6 (drop 7 s)) ≡ cond (ltb 23 (second_name s)) (Err Unknown) (Ok (second_name s))
    second = read_by (take 6 (drop 7 s)) (length-take-le 6 (drop 7 s) (omega (arith, length-drop 7 s)))

    pub first_unknown : {r : Result ℕ Refusal} (e : Refusal) → r ≡ Err e → r ≡ read_of (take 6 s) → Err e ≡ answer_of n s
    first_unknown e i r = let p = sym i ∙ r in go (ltb 23 (first_name s)) refl (p ∙ first)
      where
        go : (t : Bool) → ltb 23 (first_name s) ≡ t → Err e ≡ cond t (Err Unknown) (Ok (first_name s)) → Err e ≡ answer_of n s
        go true i q = q ∙ answered true (ap (λ (b : Bool). b || ltb 23 (second_name s)) i)
        go false i q = cc

    named : {m k : ℕ} (u : Bool) → Ok m ≡ cond u (Err Unknown) (Ok k) → (u ≡ false) × (m ≡ k)
    named true q = (cc, cc)
    named false q = (refl, cc)

    pub second_unknown : {q r : Result ℕ Refusal} (a : ℕ) (e : Refusal) → q ≡ Ok a → q ≡ read_of (take 6 s) → r ≡ Err e → r ≡ read_of (take 6 (drop 7 s))
        → Err e ≡ answer_of n s
    second_unknown a e i q j r = go (ltb 23 (second_name s)) refl (sym j ∙ r ∙ second)
      where
        go : (u : Bool) → ltb 23 (second_name s) ≡ u → Err e ≡ cond u (Err Unknown) (Ok (second_name s)) → Err e ≡ answer_of n s
        go true k t = t ∙ answered true (ap₂ ◌||◌ (named (ltb 23 (first_name s)) (sym i ∙ q ∙ first)).0 k)
        go false k t = cc

    pub two_names : {a b : ℕ} {r : Result ℕ Refusal} → Ok a ≡ read_of (take 6 s) → Ok b ≡ read_of (take 6 (drop 7 s))
        → r ≡ given_of (compose_checks a b) (compose_of a b) → r ≡ answer_of n s
    two_names {a} {b} p q e =
        let f = named (ltb 23 (first_name s)) (p ∙ first) in
        let g = named (ltb 23 (second_name s)) (q ∙ second) in
        let none = ap₂ ◌||◌ f.0 g.0 in
        e
        ∙ ap₂ (λ (k m : ℕ). given_of (compose_checks k m) (compose_of k m)) f.1 g.1
        ∙ sym (given 0 _ (compose_checks (first_name s) (second_name s)) (passes 4 [] none ∙ all_pass))
        ∙ answered false none

-- ---- a mounting that is answered has a name

printable_by : (a b : ℕ) (t u : Bool) → (ltb 23 a || ltb 23 b) ≡ u → Printable (given_of (check 1 t ∷ check 4 u ∷ []) (compose_of a b))
unfolding refusal_of
printable_by a b true u e = omega arith
printable_by a b false true e = omega arith
printable_by a b false false e =
    let o = neither (ltb 23 a) (ltb 23 b) e in
    let h = ltb-false 23 a o.0 in
    let g = ltb-false 23 b o.1 in
    (composes a b (vector nan nan nan) (omega arith) (omega arith)).0

pub printable : (n : ℕ) (s : List ℕ) → Printable (answer_of n s)
unfolding answer_of
printable n s = printable_by (first_name s) (second_name s) _ _ refl
