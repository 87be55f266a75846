-- 01, "Mountings", the program: what is printed for a line that is read, and for the whole input.
use Rattle.std.specs.Prelude.{ℕ, not, ◌||◌, cond, List, [], ◌∷◌, ◌++◌, eqb, ltb, length, get_or, take, drop}
use Rattle.answer.specs.Refusals.{Check, check}
use Rattle.text.specs.Text.{space, newline, refused_of}
use Rattle.std.specs.declared.result.Result.{Result}
use Rattle.std.specs.declared.result.Result.TheVariants.{Ok, Err}
use Rattle.answer.specs.declared.refusal.Refusal.{Refusal}
use Rattle.answer.specs.Rows.{row_of}
use Rattle.remap.specs.Given.{given_of}
use Rattle.remap.specs.Names.{name_of, named_by}
use Rattle.remap.specs.Composition.{compose_of}

-- the mountings that a line's two names give, 24 where a name is unknown
abbrev pub first_name : List ℕ → ℕ
first_name s = named_by (take 6 s)

abbrev pub second_name : List ℕ → ℕ
second_name s = named_by (take 6 (drop 7 s))

-- a line of n bytes is two names, one space between, 13 bytes without its newline: what stands past the 13th is never read
abbrev pub line_checks : ℕ → List ℕ → List Check
line_checks n s =
    check 1 (not (eqb n 13) || not (eqb (get_or s 6 0) space)) ∷
    check 4 (ltb 23 (first_name s) || ltb 23 (second_name s)) ∷
    []

-- the mounting "first then second", or a refusal
unfoldable pub answer_of : ℕ → List ℕ → Result ℕ Refusal
answer_of n s = given_of (line_checks n s) (compose_of (first_name s) (second_name s))

-- the name and a newline, or the refusal's line
unfoldable pub text_of : Result ℕ Refusal → List ℕ
text_of (Ok m) = name_of m ++ (newline ∷ [])
text_of (Err e) = refused_of (row_of e)

-- what is printed for a line of n bytes
abbrev pub line_text : ℕ → List ℕ → List ℕ
line_text n s = text_of (answer_of n s)

-- a last line without newline counts unless empty
unfoldable pub last_of : ℕ → List ℕ → List ℕ
last_of n s = cond (eqb n 0) [] (line_text n s)

-- what is printed for the input, of whose first line some bytes came already: one line for each line read
unfoldable pub printed : List ℕ → List ℕ → List ℕ
printed line [] = last_of (length line) line
printed line (b ∷ bs) = cond (eqb b newline) (line_text (length line) line ++ printed [] bs) (printed (line ++ (b ∷ [])) bs)
