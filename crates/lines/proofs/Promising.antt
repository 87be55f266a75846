-- Which calls are refused: where there is no room, and where there is. Assumes nothing.
use Prim.Native.Nat.{ℕ, ◌*◌, ◌/◌, ◌≤◌, ◌<◌}
use native.Mathlib.Omega.{arith}
use mathlib.Core.Path.{◌≡◌, ◌∙◌}
use mathlib.Core.List.{List, []}
use lib.ListN.{length}
use borrow.Author.Tests.{lt-ltb, le-ltb}
use Rattle.answer.specs.Refusals.{refusal_of}
use Rattle.answer.specs.Rows.{number_in}
use Rattle.answer.proofs.Answering.{fails, passes, all_pass}
use Rattle.lines.specs.declared.Line.{Line}
use Rattle.lines.specs.declared.Fed.{Fed}
use Rattle.lines.specs.Feeding.{feed_checks, last_checks, PartFed, LastFed}

module _ (part out : List ℕ) where
  pub no_room : length out / 10 < length part → refusal_of (feed_checks part out) ≡ 1
  no_room h = fails 1 [] (lt-ltb (length out) (10 * length part) (omega arith))

  pub room : length part ≤ length out / 10 → refusal_of (feed_checks part out) ≡ 0
  room h = passes 1 [] (le-ltb (length out) (10 * length part) (omega arith)) ∙ all_pass

module _ (out : List ℕ) where
  pub no_room_for_last : length out < 10 → refusal_of (last_checks out) ≡ 1
  no_room_for_last h = fails 1 [] (lt-ltb (length out) 10 h)

  pub room_for_last : 10 ≤ length out → refusal_of (last_checks out) ≡ 0
  room_for_last h = passes 1 [] (le-ltb (length out) 10 h) ∙ all_pass

-- ---- what a caller that lends enough needs no test for

pub feed_accepted
    : (part : List ℕ) {l : Line} {out after : List ℕ} (r : Fed) → PartFed l part out after r → 10 * length part ≤ length out
    → number_in r.result ≡ 0
feed_accepted part {l} {out} r f h = f.number ∙ room part out (omega arith)

pub last_accepted : {l : Line} {out after : List ℕ} (r : Fed) → LastFed l out after r → 10 ≤ length out → number_in r.result ≡ 0
last_accepted {l} {out} r f h = f.number ∙ room_for_last out h
