-- `trig::point::ratio` meets its contract.
use Rattle.trig.proofs.Ratios.{ratio_asks, ratio_gives, takes_some, takes_none}
use Rattle.trig.proofs.point.ratio.Goals as goal

pub invariant_of-steps : goal.invariant_of-steps
invariant_of-steps c = record { inside = ratio_asks c.args.small c.args.large c.requires }

pub invariant_of-result : goal.invariant_of-result
invariant_of-result c = record {
  small = rw (takes_some c.args.small c.args.large c.if-q.true c.steps.ensures.value) (ratio_gives c.args.small c.args.large c.requires).small;
}

pub returns-then-q : goal.returns-then-q
returns-then-q c = takes_some c.args.small c.args.large c.if-q.true c.steps.ensures.value

pub returns : goal.returns
returns c = takes_none c.args.small c.args.large c.if-q.false
