-- A text put at the start of a lent slice; and the promise of a machine that is fed, and prints into one.
use Rattle.std.specs.Prelude.{ℕ, ◌≡◌, cond, List, ◌++◌, leb, length, take, drop}
use Rattle.answer.specs.Refusals.{Check, refusal_of, accepted}

-- the text, and after it what stood there before
unfoldable pub over : List ℕ → List ℕ → List ℕ
over text old = text ++ drop (length text) old

-- the text behind the first n bytes
abbrev pub put_at : ℕ → List ℕ → List ℕ → List ℕ
put_at n text old = take n old ++ over text (drop n old)

-- the text stands at the start, and n is its length
pub record Puts (text old after : List ℕ) (n : ℕ) : Type 0 where
  pub count : n ≡ length text
  pub holds : after ≡ over text old

-- so it is where the slice has room for the text; where it has not, the slice is as it was, and n is 0
pub record Fits (text old after : List ℕ) (n : ℕ) : Type 0 where
  pub count : n ≡ cond (leb (length text) (length old)) (length text) 0
  pub holds : after ≡ cond (leb (length text) (length old)) (over text old) old

-- the state becomes `new` and the text is put over what the slice held; or where the checks refuse, all is as it was.
-- What came back is the state, how many bytes are to be printed, and the refusal's number.
pub record Feeds {S : Type 0} (cs : List Check) (before new : S) (text old after : List ℕ) (now : S) (n refusal : ℕ) : Type 0 where
  pub number : refusal ≡ refusal_of cs
  pub state : now ≡ accepted (refusal_of cs) new before
  pub count : n ≡ accepted (refusal_of cs) (length text) 0
  pub holds : after ≡ accepted (refusal_of cs) (over text old) old

-- two results that both satisfy the promise are the same, and leave the same in the lent slice
abbrev pub FedOnce : Type 1
FedOnce =
    (S : Type 0) (cs : List Check) (before new : S) (text old after also : List ℕ) (now now' : S) (n n' k k' : ℕ)
    → Feeds cs before new text old after now n k → Feeds cs before new text old also now' n' k'
    → (now ≡ now') × (n ≡ n') × (k ≡ k') × (after ≡ also)
