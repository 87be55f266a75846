-- What the inner functions ask for and promise.
use Rattle.std.specs.Prelude.{ℕ, ◌+◌, ◌<◌, ◌≡◌, List, ◌++◌, length, take, drop}
use Rattle.text.specs.Putting.{over}
use Rattle.std.specs.declared.result.Result.{Result}
use Rattle.std.specs.declared.result.Result.TheVariants.{Ok, Err}
use Rattle.answer.specs.declared.refusal.Refusal.{Refusal}
use Rattle.answer.specs.Rows.{row_of, number_in}
use Rattle.lines.specs.declared.Fed.{Fed}
use Rattle.lines.specs.Machine.{kept_of, print_of}

-- a mounting has a name, and a refusal's number one digit
abbrev pub Printable : Result ℕ Refusal → Type 0
Printable (Ok m) = m < 24
Printable (Err e) = row_of e < 10

-- the byte's text stands behind what was printed before it
pub record Takes (f : Fed) (b : ℕ) (old after : List ℕ) (r : Fed) : Type 0 where
  pub number : number_in r.result ≡ 0
  pub line : r.line ≡ kept_of f.line b
  pub count : r.n ≡ f.n + length (print_of f.line b)
  pub holds : after ≡ take f.n old ++ over (print_of f.line b) (drop f.n old)
