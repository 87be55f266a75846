-- `trig::wave::sin` meets its contract: out of the range, below a degree, and above.
use lib.Ieee.{of_bits, div}
use Rattle.trig.specs.Degrees.{sine_at}
use Rattle.trig.specs.Wave.{sin_of}
use Rattle.trig.proofs.Waves.{waves, near, in_range, out_of_range, no_sine, small_sine, large_sine}
use Rattle.trig.proofs.wave.sin.Goals as goal

pub returns-then-not-in_turn : goal.returns-then-not-in_turn
unfolding of_bits div
returns-then-not-in_turn c =
    let e = near sin_of sine_at waves.sine c.args.x c.well_formed.0.1 (no_sine c.args.x (out_of_range _ c.in_turn.ensures c.if-not-in_turn.true)) in
    record { value = e.0; near = e.1 }

pub returns-then-fabsf : goal.returns-then-fabsf
unfolding of_bits div
returns-then-fabsf c =
    let e = in_range c.args.x c.in_turn.ensures c.if-not-in_turn.false in
    let f = near sin_of sine_at waves.sine c.args.x c.well_formed.0.1 (small_sine c.args.x e c.fabsf.ensures c.if-fabsf.true c.slope.ensures) in
    record { value = f.0; near = f.1 }

pub returns : goal.returns
unfolding of_bits div
returns c =
    let e = in_range c.args.x c.in_turn.ensures c.if-not-in_turn.false in
    let f = near sin_of sine_at waves.sine c.args.x c.well_formed.0.1 (large_sine c.args.x e c.fabsf.ensures c.if-fabsf.false c.rounded.ensures) in
    record { value = f.0; near = f.1 }
