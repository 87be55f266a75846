-- 01, "What we will read in the promises": what a call answers, the line and the lent slice afterwards, accepted or refused.
use Rattle.std.specs.Prelude.{ℕ, ◌*◌, List, [], ◌∷◌, ltb, length}
use Rattle.answer.specs.Refusals.{Check, check}
use Rattle.answer.specs.Rows.{number_in}
use Rattle.text.specs.Putting.{Feeds}
use Rattle.lines.specs.declared.Line.{Line}
use Rattle.lines.specs.declared.Fed.{Fed}
use Rattle.lines.specs.Rule.{last_of}
use Rattle.lines.specs.Machine.{fresh_line, line_after, text_after}

-- 10 bytes for each byte of the part, the longest that is printed for one
abbrev pub feed_checks : List ℕ → List ℕ → List Check
feed_checks part out = check 1 (ltb (length out) (10 * length part)) ∷ []

abbrev pub last_checks : List ℕ → List Check
last_checks out = check 1 (ltb (length out) 10) ∷ []

abbrev pub PartFed : Line → List ℕ → List ℕ → List ℕ → Fed → Type 0
PartFed l part old after r = Feeds (feed_checks part old) l (line_after l part) (text_after l part) old after r.line r.n (number_in r.result)

abbrev pub LastFed : Line → List ℕ → List ℕ → Fed → Type 0
LastFed l old after r = Feeds (last_checks old) l fresh_line (last_of l.n l.text) old after r.line r.n (number_in r.result)
