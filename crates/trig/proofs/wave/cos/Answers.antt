-- `trig::wave::cos` meets its contract: out of the range, and in it.
use lib.Ieee.{of_bits, div}
use Rattle.trig.specs.Degrees.{cosine_at}
use Rattle.trig.specs.Wave.{cos_of}
use Rattle.trig.proofs.Waves.{waves, near, in_range, out_of_range, no_cosine, the_cosine}
use Rattle.trig.proofs.wave.cos.Goals as goal

pub returns-then-not-in_turn : goal.returns-then-not-in_turn
unfolding of_bits div
returns-then-not-in_turn c =
    let e = near cos_of cosine_at waves.cosine c.args.x c.well_formed.0.1 (no_cosine c.args.x (out_of_range _ c.in_turn.ensures c.if-not-in_turn.true)) in
    record { value = e.0; near = e.1 }

pub returns : goal.returns
returns c =
    let e = in_range c.args.x c.in_turn.ensures c.if-not-in_turn.false in
    let f = near cos_of cosine_at waves.cosine c.args.x c.well_formed.0.1 (the_cosine c.args.x e c.rounded.ensures) in
    record { value = f.0; near = f.1 }
