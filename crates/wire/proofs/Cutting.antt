-- Where the bytes are cut into parts changes nothing, for any machine. Assumes nothing.
use Prim.Native.Nat.{ℕ}
use mathlib.Core.Path.{◌≡◌, refl, ap, sym, ◌∙◌}
use mathlib.Core.List.{List, [], ◌∷◌, ◌++◌, append_assoc}
use Rattle.wire.specs.Stream.{joined, after, gives, Uncut}

module _ {S O : Type 0} (next : S → ℕ → S) (out : S → ℕ → List O) where
  pub after_append : (s : S) (x y : List ℕ) → after next out s (x ++ y) ≡ after next out (after next out s x) y
  after_append s [] y = refl
  after_append s (b ∷ x) y = after_append (next s b) x y

  pub gives_append : (s : S) (x y : List ℕ) → gives next out s (x ++ y) ≡ gives next out s x ++ gives next out (after next out s x) y
  gives_append s [] y = refl
  gives_append s (b ∷ x) y = rw (gives_append (next s b) x y, append_assoc)

  pub cut : Uncut next out
  cut end s [] = refl
  cut end s (x ∷ parts) =
      ap (λ (q : List O). gives next out s x ++ q) (cut end (after next out s x) parts)
      ∙ sym
      (append_assoc (gives next out s x) (gives next out (after next out s x) (joined parts)) (end (after next out (after next out s x) (joined parts))))
      ∙ simp (gives_append s x (joined parts), after_append s x (joined parts))
