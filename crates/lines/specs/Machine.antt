-- 01, "Mountings", the program fed byte by byte: of a line that is not ended 13 bytes are kept, and how many came.
use Rattle.std.specs.Prelude.{ℕ, ◌+◌, ◌≡◌, cond, List, [], eqb, ltb, set, replicate}
use Rattle.text.specs.Text.{newline}
use Rattle.wire.specs.Stream.{joined, after, gives, gives_parts}
use Rattle.lines.specs.declared.Line.{Line}
use Rattle.lines.specs.Rule.{line_text, last_of, printed}

abbrev pub line : ℕ → List ℕ → Line
line n s = record { n = n; text = s }

unfoldable pub fresh_line : Line
fresh_line = line 0 (replicate 13 0)

-- a newline ends the line; any other byte is kept, or only counted where there are 13: 14 stands for any more
unfoldable pub kept_of : Line → ℕ → Line
kept_of l b = cond (eqb b newline) fresh_line (cond (ltb l.n 13) (line (l.n + 1) (set l.text l.n b)) (line 14 l.text))

-- what a byte prints
unfoldable pub print_of : Line → ℕ → List ℕ
print_of l b = cond (eqb b newline) (line_text l.n l.text) []

-- the line after some bytes, and what they have printed
unfoldable pub line_after : Line → List ℕ → Line
line_after l s = after kept_of print_of l s

unfoldable pub text_after : Line → List ℕ → List ℕ
text_after l s = gives kept_of print_of l s

-- what is printed of an input that is read in parts: of each part, and of the last line
abbrev pub printed_parts : List (List ℕ) → List ℕ
printed_parts parts = gives_parts kept_of print_of (λ (l : Line). last_of l.n l.text) fresh_line parts

-- ---- the statement

-- wherever the input is cut, that is what the rule says of the whole input
abbrev pub CutAnywhere : Type 0
CutAnywhere = (parts : List (List ℕ)) → printed_parts parts ≡ printed [] (joined parts)
