-- `trig::wave::Degrees::rounded` meets its contract: the size and the sign at an even and at an odd quarter.
use Rattle.std.proofs.Common.{◌∙◌}
use Rattle.trig.proofs.Quarter.{even_wave, odd_wave}
use Rattle.trig.proofs.wave.Degrees.rounded.Goals as goal

pub returns-then-q-eq0 : goal.returns-then-q-eq0
returns-then-q-eq0 c =
    rw (← c.lifted-lifted.ensures)
    (c.to_float.ensures ∙ even_wave c.args.k c.lifted-lifted.result.y _ _ _ c.quarters-at.ensures.value c.rest-t.ensures c.if-q-eq0.true c.sine.ensures)

pub returns-else-q-eq0 : goal.returns-else-q-eq0
returns-else-q-eq0 c =
    rw (← c.lifted-lifted.ensures)
    (c.to_float-else-q-eq0.ensures
    ∙ odd_wave c.args.k c.lifted-lifted.result.y _ _ _ c.quarters-at.ensures.value c.rest-t.ensures c.if-q-eq0.false c.cosine.ensures)
