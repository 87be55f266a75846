-- `step::Rejection::recovery_trigger` meets its contract: by the test; both counts come back from their bits.
use mir.Syntax.{w32}
use mir.Val.{SFits}
use mir.Facts.{to_z-of_z}
use borrow.Author.Rules.{rules}
use Rattle.step.specs.Sensor.{ratio_of}
use Rattle.step.proofs.Ratio.{is_nought_lem, no_nought, ratio}
use Rattle.step.proofs.Rejection.recovery_trigger.Goals as goal

pub returns-then-timeout-eq0 : goal.returns-then-timeout-eq0
unfolding ratio_of
returns-then-timeout-eq0 c =
    let t = c.args.timeout in
    ratio c.args.self t (search rules) (simp (is_nought_lem t (to_z-of_z c.ranges.timeout) c.if-timeout-eq0.true))

pub returns : goal.returns
unfolding ratio_of
returns c =
    let r = c.args.self in
    let t = c.args.timeout in
    let f : SFits w32 r.recovery_trigger = search rules in
    let timeout = to_z-of_z c.ranges.timeout in
    ratio r t f (simp (no_nought t c.if-timeout-eq0.false, c.from_i32-2.ensures, c.from_i32.ensures, timeout, to_z-of_z f))
