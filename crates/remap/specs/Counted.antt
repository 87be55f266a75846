-- A number that is taken for a mounting's: refused with 4 above 23.
use Rattle.std.specs.Prelude.{ℕ, ◌≡◌, ltb, List, [], ◌∷◌, IfOk}
use Rattle.std.specs.declared.result.Result.{Result}
use Rattle.answer.specs.declared.refusal.Refusal.{Refusal}
use Rattle.answer.specs.Refusals.{Check, check, refusal_of}
use Rattle.answer.specs.Rows.{number_in}
use Rattle.remap.specs.declared.mounting.Mounting.{Mounting}

abbrev pub number_checks : ℕ → List Check
number_checks n = check 4 (ltb 23 n) ∷ []

-- r is the mounting with the number n, or the refusal that its check gives
abbrev pub Counted : ℕ → Result Mounting Refusal → Type 0
Counted n r = (number_in r ≡ refusal_of (number_checks n)) × IfOk r (λ m. m.number ≡ n)
