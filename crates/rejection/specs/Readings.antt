-- Readings one after another, as one sensor's rejection tells them apart, and the counts that they leave.
use Rattle.std.specs.Prelude.{true, false, List, [], ◌∷◌, ℤ}
use Rattle.rejection.specs.declared.Counts.{Counts}
use Rattle.rejection.specs.declared.Updated.{Updated}
use Rattle.rejection.specs.Counts.{updated_of}

pub data Kind : Type 0 where
  good : Kind
  over : Kind
  all_zero : Kind

-- one that is all zero leaves the counts, and is not used
abbrev pub by_kind : ℤ → Counts → Kind → Updated
by_kind timeout c good = updated_of timeout c false
by_kind timeout c over = updated_of timeout c true
by_kind timeout c all_zero = record { counts = c; used = false }

abbrev pub after_all : ℤ → Counts → List Kind → Counts
after_all timeout c [] = c
after_all timeout c (x ∷ xs) = after_all timeout (by_kind timeout c x).counts xs
