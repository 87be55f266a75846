-- 01, "The refusal table": of every call here each number is given exactly when its row says.
use Rattle.std.specs.Prelude.{ℕ, List}
use Rattle.answer.specs.Refusals.{Exactly}
use Rattle.remap.specs.Names.{read_checks, write_checks}
use Rattle.remap.specs.Composition.{compose_checks, inverse_checks}

pub record ExactlyWhen : Type 0 where
  pub read_name : (s : List ℕ) → Exactly (read_checks s)
  pub write_name : (n room : ℕ) → Exactly (write_checks n room)
  pub compose : (first second : ℕ) → Exactly (compose_checks first second)
  pub inverse : (n : ℕ) → Exactly (inverse_checks n)
