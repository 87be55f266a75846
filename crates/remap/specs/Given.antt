-- What a call that gives a mounting's number says: that number, or a refusal.
use Rattle.answer.specs.Said.{alone}
use Rattle.std.specs.Prelude.{ℕ, List}
use Rattle.std.specs.declared.result.Result.{Result}
use Rattle.std.specs.declared.result.Result.TheVariants.{Ok, Err}
use Rattle.answer.specs.declared.refusal.Refusal.{Refusal}
use Rattle.answer.specs.Refusals.{Check, refusal_of, accepted}
use Rattle.answer.specs.Rows.{refusal_at}
use Rattle.answer.specs.Promises.{Results}

-- the mounting m, or the refusal that the checks give
abbrev pub given_of : List Check → ℕ → Result ℕ Refusal
given_of cs m = accepted (refusal_of cs) (Ok m) (Err (refusal_at (refusal_of cs)))

-- r answers the mounting m by these checks
abbrev pub Gives : List Check → ℕ → Result ℕ Refusal → Type 0
Gives cs m r = Results alone cs m r
