-- The cases of a line after one byte more, and of what that byte prints. Assumes nothing.
use Prim.Native.Nat.{ℕ, ◌+◌, ◌≤◌, ◌<◌}
use native.Mathlib.Omega.{arith}
use mathlib.Core.Path.{◌≡◌, refl, ap, ◌∙◌}
use mathlib.Core.Bool.{Bool, true, false, cond}
use mathlib.Core.List.{List, [], ◌++◌}
use lib.Dec.{eqb}
use lib.ListN.{length, set, drop}
use lib.Seq.{drop-cons}
use Rattle.text.specs.Text.{newline}
use Rattle.text.specs.Putting.{over, Puts}
use borrow.Author.Tests.{lt-ltb, le-ltb, eq-eqb, ne_eqb}
use Rattle.text.proofs.Refused.{ten}
use Rattle.lines.specs.declared.Line.{Line}
use Rattle.std.specs.declared.result.Result.{Result}
use Rattle.std.specs.declared.result.Result.TheVariants.{Ok, Err}
use Rattle.answer.specs.declared.refusal.Refusal.{Refusal}
use Rattle.answer.specs.Rows.{row_of}
use Rattle.remap.specs.Names.{name_of}
use Rattle.lines.specs.Rule.{answer_of, text_of, line_text, last_of}
use Rattle.lines.specs.Machine.{line, fresh_line, kept_of, print_of}
use Rattle.lines.specs.Inner.{Printable}
use Rattle.lines.proofs.Answering.{printable}

module _ (l : Line) (b : ℕ) where
  pub ended : b ≡ 10 → fresh_line ≡ kept_of l b
  unfolding kept_of
  ended h = rw (eq-eqb b 10 h)

  pub stored : (b ≡ 10 → ⊥) → l.n < 13 → line (l.n + 1) (set l.text l.n b) ≡ kept_of l b
  unfolding kept_of
  stored h g = rw (ne_eqb b 10 h, lt-ltb l.n 13 g)

  pub counted : (b ≡ 10 → ⊥) → 13 ≤ l.n → line 14 l.text ≡ kept_of l b
  unfolding kept_of
  counted h g = rw (ne_eqb b 10 h, le-ltb l.n 13 g)

  pub answered : b ≡ 10 → line_text l.n l.text ≡ print_of l b
  unfolding print_of
  answered h = rw (eq-eqb b 10 h)

  pub silent : (b ≡ 10 → ⊥) → [] ≡ print_of l b
  unfolding print_of
  silent h = rw (ne_eqb b 10 h)

module _ (n : ℕ) (s : List ℕ) where
  pub last_empty : n ≡ 0 → [] ≡ last_of n s
  unfolding last_of
  last_empty h = rw (eq-eqb n 0 h)

  pub last_line : (n ≡ 0 → ⊥) → line_text n s ≡ last_of n s
  unfolding last_of
  last_line h = rw (ne_eqb n 0 h)

-- ---- a name in the first six places, and a newline after it

pub name_line : (m : ℕ) (old : List ℕ) {name : List ℕ} → name ≡ name_of m → 10 ≤ length old
    → Puts (text_of (Ok m)) old (set (name ++ drop 6 old) 6 newline) 7
unfolding name_of text_of over
name_line m old q l =
    record {
      count = refl;
      holds =
          ap (λ (x : List ℕ). set (x ++ drop 6 old) 6 newline) q
          ∙ ap (λ (x : List ℕ). set (name_of m ++ x) 6 newline) (drop-cons old 6 0 (omega arith));
    }

-- ---- at most 10 bytes are printed for a byte

text_short : (a : Result ℕ Refusal) → Printable a → length (text_of a) ≤ 10
unfolding text_of name_of
text_short (Ok m) h = omega arith
text_short (Err e) h = omega (arith, ten (row_of e) h)

pub print_short : (l : Line) (b : ℕ) → length (print_of l b) ≤ 10
unfolding print_of
print_short l b = go (eqb b 10)
  where
    go : (t : Bool) → length (cond t (line_text l.n l.text) []) ≤ 10
    go true = text_short (answer_of l.n l.text) (printable l.n l.text)
    go false = omega arith
