-- `trig::fixed::Fixed::series` meets its contract, a stage at a time.
use Rattle.std.proofs.Common.{◌≡◌, ℕ, ◌+◌, ◌<◌, List, drop, length, slice_index_or, sym, ap, ◌∙◌, arith, lit≤, add-one}
use Rattle.std.proofs.Math.Seq.{drop-cons}
use Rattle.std.proofs.lemmas.List.{drop_all}
use Rattle.trig.specs.Fixed.{stage_of, stages_of}
use Rattle.trig.proofs.fixed.Fixed.series.Goals as goal

-- the stage at i is the next
next : (u h i : ℕ) (cs : List ℕ) → i < length cs → stages_of u h (drop i cs) ≡ stages_of u (stage_of u h (slice_index_or cs i 0)) (drop (i + 1) cs)
next u h i cs l = rw (add-one i, drop-cons cs i 0 l)

pub loop-c-init : goal.loop-c-init
loop-c-init c = (lit≤ tt, rw c.scaled-square.ensures)

pub invariant_of-h : goal.invariant_of-h
invariant_of-h c = record { small = c.loop-c.invariant.0 }

pub loop-c-preserved : goal.loop-c-preserved
loop-c-preserved c = (
  c.stage-h.result.small,
  rw c.stage-h.ensures (sym (next c.scaled-square.result.n c.loop-c.h.0 c.loop-c.c-index c.args.divisors (omega arith)) ∙ c.loop-c.invariant.1),
)

pub invariant_of-h-2 : goal.invariant_of-h-2
invariant_of-h-2 c = record { small = c.loop-c.invariant.0 }

pub returns : goal.returns
returns c =
    sym (ap (λ (cs : List ℕ). stages_of c.scaled-square.result.n c.loop-c.h.0 cs) (drop_all c.loop-c.c-index c.args.divisors (omega arith)))
    ∙ c.loop-c.invariant.1
