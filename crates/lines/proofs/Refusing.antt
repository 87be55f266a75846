-- The rows of every call ascend, so the law of the refusal table holds of them; and each promise has one result. Assumes nothing.
use Prim.Native.Nat.{ℕ}
use mathlib.Core.Path.{◌≡◌}
use mathlib.Core.List.{List}
use Rattle.answer.specs.Refusals.{Check, ascends}
use Rattle.answer.proofs.Table.{by_the_table}
use Rattle.answer.proofs.Answering.{same_result}
use Rattle.answer.specs.Rows.{number_in}
use Rattle.text.specs.Putting.{Feeds}
use Rattle.text.proofs.Feeding.{fed_once}
use Rattle.lines.specs.declared.Line.{Line}
use Rattle.lines.specs.declared.Fed.{Fed}
use Rattle.lines.specs.Rule.{line_checks}
use Rattle.lines.specs.Feeding.{feed_checks, last_checks}
use Rattle.lines.specs.Exact.{ExactlyWhen, Determined}

pub exactly_when : ExactlyWhen
unfolding ascends
exactly_when =
    record {
      line = λ n s. by_the_table (line_checks n s) tt;
      feed = λ part out. by_the_table (feed_checks part out) tt;
      last = λ out. by_the_table (last_checks out) tt;
    }

-- a result is its three fields, and the promise says each
same : {cs : List Check} {l new : Line} {text old after also : List ℕ} {r s : Fed}
    → Feeds cs l new text old after r.line r.n (number_in r.result) → Feeds cs l new text old also s.line s.n (number_in s.result)
    → (r ≡ s) × (after ≡ also)
same {r = r} {s = s} p q =
    let (line, n, number, holds) = fed_once _ _ _ _ _ _ _ _ _ _ _ _ _ _ p q in
    let result = same_result r.result s.result number in
    (λ i. record { line = line i; n = n i; result = result i }, holds)

pub determined : Determined
determined = record { feed = λ l part old after also r s p q. same p q; last = λ l old after also r s p q. same p q }
