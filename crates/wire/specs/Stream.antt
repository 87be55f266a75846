-- A machine that is fed byte by byte: its state after some bytes, and what they give.
use Rattle.std.specs.Prelude.{ℕ, ◌≡◌, List, [], ◌∷◌, ◌++◌}

-- the parts as one
abbrev pub joined : List (List ℕ) → List ℕ
joined [] = []
joined (x ∷ parts) = x ++ joined parts

module _ {S O : Type 0} (next : S → ℕ → S) (out : S → ℕ → List O) where
  abbrev pub after : S → List ℕ → S
  after s [] = s
  after s (b ∷ bs) = after (next s b) bs

  abbrev pub gives : S → List ℕ → List O
  gives s [] = []
  gives s (b ∷ bs) = out s b ++ gives (next s b) bs

  -- the parts one after another, and what the end of the input gives
  abbrev pub gives_parts : (S → List O) → S → List (List ℕ) → List O
  gives_parts end s [] = end s
  gives_parts end s (x ∷ parts) = gives s x ++ gives_parts end (after s x) parts

  -- where the bytes are cut into parts changes nothing
  abbrev pub Uncut : Type 0
  Uncut =
      (end : S → List O) (s : S) (parts : List (List ℕ))
      → gives_parts end s parts ≡ gives s (joined parts) ++ end (after s (joined parts))
