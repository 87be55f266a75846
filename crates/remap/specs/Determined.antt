-- 01, "What we will read in the promises": two results that both satisfy a call's promise are the same, and leave the same in the lent slice.
use Rattle.std.specs.Prelude.{ℕ, List}
use Rattle.answer.specs.Promises.{One, OneLent, Answers}
use Rattle.vector.specs.declared.Vector.{Vector}
use Rattle.vector.specs.Mounting.{turn_of}
use Rattle.vector.specs.Turned.{turn_checks, turned_answer}
use Rattle.remap.specs.Given.{Gives}
use Rattle.remap.specs.Names.{named_by, read_checks, NameWritten}
use Rattle.remap.specs.Composition.{compose_of, compose_checks, inverse_of, inverse_checks}

pub record Determined : Type 0 where
  pub remap : (v : Vector) (n : ℕ) → One (Answers (turn_checks v n) (turned_answer (turn_of n v)))
  pub write_name : (n : ℕ) (s : List ℕ) → OneLent (NameWritten n s)
  pub read_name : (s : List ℕ) → One (Gives (read_checks s) (named_by s))
  pub compose : (first second : ℕ) → One (Gives (compose_checks first second) (compose_of first second))
  pub inverse : (n : ℕ) → One (Gives (inverse_checks n) (inverse_of n))
