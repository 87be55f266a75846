-- A line of four words: two pairs one behind the other. Assumes nothing.
use Prim.Native.Nat.{ℕ, ◌-◌, ◌≤◌, ◌<◌}
use native.Mathlib.Omega.{arith}
use mathlib.Core.Path.{◌≡◌, refl, ap₂, sym, ◌∙◌}
use mathlib.Core.List.{List, ◌++◌}
use lib.ListN.{length, take, drop}
use borrow.Rule.Slice.PartMut.{mid_of, put_mid}
use Rattle.text.specs.Text.{space, newline, word_of, pair_of, words_of}
use Rattle.text.specs.Putting.{over, Puts, Fits}
use Rattle.text.proofs.Putting.{behind, over_over, too_long, put_fits}

pair_long : (a b end : ℕ) → length (pair_of a b end) ≡ 18
unfolding pair_of word_of
pair_long a b end = refl

pub words_long : (a b c d : ℕ) → length (words_of a b c d) ≡ 36
unfolding words_of pair_of word_of
words_long a b c d = refl

module _ (a b c d : ℕ) (old : List ℕ) where
  pub no_words : length old < 36 → Fits (words_of a b c d) old old 0
  no_words l = too_long (words_of a b c d) old (omega (arith, words_long a b c d))

  -- a pair at the start of a slice, and another behind it
  pub puts_words : {one two : List ℕ} {m n : ℕ} → 36 ≤ length old → length one ≡ length old
      → Puts (pair_of a b space) old one m → Puts (pair_of c d newline) (mid_of 18 (length one - 18) one) two n
      → Fits (words_of a b c d) old (put_mid 18 (length one - 18) one two) 36
  unfolding words_of
  puts_words {one} {two} room same p r =
      let t = pair_of a b space in
      let u = pair_of c d newline in
      put_fits (words_of a b c d) old (omega (arith, words_long a b c d))
      (record {
        count = sym (words_long a b c d);
        holds =
            behind 18 one (omega arith) r
            ∙ ap₂ (λ (k : ℕ) (x : List ℕ). take k x ++ over u (drop k x)) (sym (pair_long a b space)) p.holds ∙ over_over t u old;
      })
