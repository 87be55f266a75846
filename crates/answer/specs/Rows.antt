-- The rows of the refusal table by their numbers, and what a result that may be a refusal says.
use Rattle.std.specs.Prelude.{ℕ, zero, suc, List}
use Rattle.std.specs.declared.result.Result.{Result}
use Rattle.std.specs.declared.result.Result.TheVariants.{Ok, Err}
use Rattle.answer.specs.declared.refusal.Refusal.{Refusal}
use Rattle.answer.specs.declared.refusal.Refusal.TheVariants.{Length, Mark, Version, Unknown, NotFinite, OutOfRange, Overflow, Sequence, Norm, Shared, TooMany}
use Rattle.answer.specs.Said.{Said, values, refusal}

-- the number of a refusal
abbrev pub row_of : Refusal → ℕ
row_of Length = 1
row_of Mark = 2
row_of Version = 3
row_of Unknown = 4
row_of NotFinite = 5
row_of OutOfRange = 6
row_of Overflow = 7
row_of Sequence = 8
row_of Norm = 9
row_of Shared = 10
row_of TooMany = 11

-- the refusal that has a number
abbrev pub refusal_at : ℕ → Refusal
refusal_at zero = Length
refusal_at (suc zero) = Length
refusal_at (suc (suc zero)) = Mark
refusal_at (suc (suc (suc zero))) = Version
refusal_at (suc (suc (suc (suc zero)))) = Unknown
refusal_at (suc (suc (suc (suc (suc zero))))) = NotFinite
refusal_at (suc (suc (suc (suc (suc (suc zero)))))) = OutOfRange
refusal_at (suc (suc (suc (suc (suc (suc (suc zero))))))) = Overflow
refusal_at (suc (suc (suc (suc (suc (suc (suc (suc zero)))))))) = Sequence
refusal_at (suc (suc (suc (suc (suc (suc (suc (suc (suc zero))))))))) = Norm
refusal_at (suc (suc (suc (suc (suc (suc (suc (suc (suc (suc zero)))))))))) = Shared
refusal_at (suc (suc (suc (suc (suc (suc (suc (suc (suc (suc (suc n))))))))))) = TooMany

-- the number that a result has: 0 where it is no refusal
abbrev pub number_in : {A : Type 0} → Result A Refusal → ℕ
number_in (Ok a) = 0
number_in (Err e) = row_of e

-- what a result says, by the values of what it gives
abbrev pub result_said : {A B : Type 0} → (A → List B) → Result A Refusal → Said B
result_said vals (Ok a) = values (vals a)
result_said vals (Err e) = refusal (row_of e)
