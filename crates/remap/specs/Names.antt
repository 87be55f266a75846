-- 01, "Mountings": the name of a mounting, what `as_str` gives, and reading and writing it in exactly 6 bytes.
use Rattle.std.specs.Prelude.{ℕ, ◌<◌, ◌≡◌, Bool, true, false, not, ◌&&◌, List, [], ◌∷◌, ltb, eqb, pos, length}
use Rattle.answer.specs.Refusals.{Check, check}
use Rattle.answer.specs.Promises.{Changed}
use Rattle.vector.specs.Mounting.{Signed, Mounting, mounting_of, read}
use Rattle.vector.specs.Determinant.{determinant_of}
use Rattle.std.specs.declared.result.Result.{Result}
use Rattle.std.specs.declared.result.Result.TheVariants.{Ok}
use Rattle.answer.specs.declared.refusal.Refusal.{Refusal}
use Rattle.remap.specs.First.{first_mounting}
use Rattle.remap.specs.Given.{given_of}

-- `+` or `-`
abbrev pub sign : Signed → ℕ
sign s = read (λ (c : ℕ). 45) 43 43 43 s

-- `X`, `Y` or `Z`
abbrev pub letter : Signed → ℕ
letter s = read (λ (c : ℕ). c) 88 89 90 s

-- the sign and the letter of each axis
abbrev pub spell : Mounting → List ℕ
spell m = sign m.x ∷ letter m.x ∷ sign m.y ∷ letter m.y ∷ sign m.z ∷ letter m.z ∷ []

unfoldable pub name_of : ℕ → List ℕ
name_of n = spell (mounting_of n)

-- whether two runs of bytes are the same
unfoldable pub same : List ℕ → List ℕ → Bool
same [] [] = true
same [] (y ∷ ys) = false
same (x ∷ xs) [] = false
same (x ∷ xs) (y ∷ ys) = eqb x y && same xs ys

-- the number of the mounting with this name, 24 where none has it
abbrev pub named_by : List ℕ → ℕ
named_by s = first_mounting (λ n. same s (name_of n))

abbrev pub read_checks : List ℕ → List Check
read_checks s = check 1 (not (eqb (length s) 6)) ∷ check 4 (ltb 23 (named_by s)) ∷ []

-- of the buffer only its length is asked
abbrev pub write_checks : ℕ → ℕ → List Check
write_checks n room = check 1 (not (eqb room 6)) ∷ check 4 (ltb 23 n) ∷ []

-- r is the refusal's number, and `after` holds the name, or where it is refused what was there
abbrev pub NameWritten : ℕ → List ℕ → List ℕ → ℕ → Type 0
NameWritten n s after r = Changed (write_checks n (length s)) (name_of n) s after r

abbrev pub read_of : List ℕ → Result ℕ Refusal
read_of s = given_of (read_checks s) (named_by s)

-- ---- the statements

-- each name is read as its mounting
abbrev pub NameRead : Type 0
NameRead = (n : ℕ) → n < 24 → read_of (name_of n) ≡ Ok n

-- no other bytes are that name
abbrev pub NoOther : Type 0
NoOther = (s : List ℕ) (n : ℕ) → read_of s ≡ Ok n → (n < 24) × (s ≡ name_of n)

-- six bytes that spell any three signed axes are a name exactly when the determinant of the three is 1
pub record NamesOfDeterminantOne : Type 0 where
  pub all : (m : Mounting) → determinant_of m ≡ pos 1 → (n : ℕ) × (read_of (spell m) ≡ Ok n)
  pub no_other : (m : Mounting) (n : ℕ) → read_of (spell m) ≡ Ok n → determinant_of m ≡ pos 1
