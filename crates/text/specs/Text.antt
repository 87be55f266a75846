-- What the programs print: a word in hexadecimal, a whole number in decimal, and the line of a refusal.
use Rattle.std.specs.Prelude.{ℕ, zero, suc, ◌+◌, ◌/◌, ◌%◌, cond, List, [], ◌∷◌, ◌++◌, ltb}
use Prim.Native.Char.{code}
use Prim.Native.String.{String, [] as no_more, ◌∷◌ as ◌then◌}
use Rattle.answer.specs.Refusals.{accepted}

abbrev pub space : ℕ
space = 32

abbrev pub newline : ℕ
newline = 10

-- `0` to `9`, then `A` to `F`
unfoldable pub digit_of : ℕ → ℕ
digit_of d = cond (ltb d 10) (d + 48) (d + 55)

-- a word of 32 bits: eight digits, the highest first
unfoldable pub word_of : ℕ → List ℕ
word_of n =
    digit_of (n / 268435456 % 16) ∷ digit_of (n / 16777216 % 16) ∷ digit_of (n / 1048576 % 16) ∷ digit_of (n / 65536 % 16) ∷
    digit_of (n / 4096 % 16) ∷ digit_of (n / 256 % 16) ∷ digit_of (n / 16 % 16) ∷ digit_of (n % 16) ∷ []

-- two words, a space between them, and what ends them
unfoldable pub pair_of : ℕ → ℕ → ℕ → List ℕ
pair_of a b end = word_of a ++ (space ∷ word_of b) ++ (end ∷ [])

-- a line of four words, one space apart
unfoldable pub words_of : ℕ → ℕ → ℕ → ℕ → List ℕ
words_of a b c d = pair_of a b space ++ pair_of c d newline

-- a number of at most k decimal digits, no zero in front
abbrev pub decimal_in : ℕ → ℕ → List ℕ
decimal_in zero n = []
decimal_in (suc k) n = cond (ltb n 10) ((n + 48) ∷ []) (decimal_in k (n / 10) ++ ((n % 10 + 48) ∷ []))

-- a number of 64 bits
unfoldable pub decimal_of : ℕ → List ℕ
decimal_of n = decimal_in 20 n

-- a name, one space, a number in decimal and a newline
unfoldable pub named_of : List ℕ → ℕ → List ℕ
named_of name n = name ++ (space ∷ decimal_of n) ++ (newline ∷ [])

-- a text of ASCII characters, as bytes
abbrev pub ascii_of : String → List ℕ
ascii_of no_more = []
ascii_of (c then s) = code c ∷ ascii_of s

-- `refused`
abbrev pub refused_word : List ℕ
refused_word = 114 ∷ 101 ∷ 102 ∷ 117 ∷ 115 ∷ 101 ∷ 100 ∷ []

-- the word, a space, the number and a newline
unfoldable pub refused_of : ℕ → List ℕ
refused_of n = refused_word ++ (space ∷ decimal_of n) ++ (newline ∷ [])

-- where a refusal ended a log it is the last line
abbrev pub last_line : ℕ → List ℕ
last_line k = accepted k [] (refused_of k)
