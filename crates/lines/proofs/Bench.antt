-- 01's own example, an empty input and an empty line, by evaluation, and outputs that the rule does not take. Assumes nothing.
use Prim.Native.Nat.{ℕ}
use mathlib.Core.Path.{◌≡◌, refl}
use mathlib.Core.Bool.{not}
use mathlib.Core.List.{List, [], ◌∷◌}
use lib.Dec.{T}
use Rattle.answer.specs.Refusals.{refusal_of}
use Rattle.text.specs.Text.{newline, decimal_of, named_of, refused_of}
use Rattle.vector.specs.Mounting.{mounting_of}
use Rattle.std.specs.declared.result.Result.TheVariants.{Err}
use Rattle.answer.specs.declared.refusal.Refusal.TheVariants.{Length}
use Rattle.remap.specs.First.{first}
use Rattle.remap.specs.Names.{name_of, same}
use Rattle.remap.specs.Composition.{compose_of}
use Rattle.lines.specs.Rule.{answer_of, text_of, last_of, printed}

-- `+Y+Z+X +Y+Z+X`, and `+Z+X+Y` with a newline
abbrev example : List ℕ
example = 43 ∷ 89 ∷ 43 ∷ 90 ∷ 43 ∷ 88 ∷ 32 ∷ 43 ∷ 89 ∷ 43 ∷ 90 ∷ 43 ∷ 88 ∷ []

abbrev whole_output : List ℕ
whole_output = 43 ∷ 90 ∷ 43 ∷ 88 ∷ 43 ∷ 89 ∷ newline ∷ []

pub bench : (printed [] example ≡ whole_output) × (printed [] [] ≡ []) × (printed [] (newline ∷ []) ≡ text_of (Err Length))
unfolding printed last_of answer_of refusal_of compose_of first same name_of mounting_of text_of refused_of named_of decimal_of
bench = (refl, refl, refl)

-- the first name again, and the right name with no newline
pub not_taken
    : T (not (same (printed [] example) (43 ∷ 89 ∷ 43 ∷ 90 ∷ 43 ∷ 88 ∷ newline ∷ [])))
    × T (not (same (printed [] example) (43 ∷ 90 ∷ 43 ∷ 88 ∷ 43 ∷ 89 ∷ [])))
unfolding printed last_of answer_of refusal_of compose_of first same name_of mounting_of text_of
not_taken = (tt, tt)
