-- `trig::wave::Degrees::steps` meets its contract: the product is exact, and in the range of the cut.
use Rattle.std.proofs.Common.{T, sym, ◌∙◌, subst}
use lib.Ieee.{of_bits}
use Rattle.trig.proofs.Steps.{steps_asks, steps_gives}
use Rattle.trig.proofs.wave.Degrees.steps.Goals as goal

pub truncating_f32_to_u64-requires : goal.truncating_f32_to_u64-requires
unfolding of_bits
truncating_f32_to_u64-requires c =
    let a = steps_asks c.args.self.x (subst T (sym c.well_formed.0.1.1.0.1) tt) c.args.self.inside in
    rw c.fabsf.ensures (record { lower_bound = a.0; upper_bound = a.1 })

pub returns : goal.returns
unfolding of_bits
returns c =
    let g = steps_gives c.args.self.x (subst T (sym c.well_formed.0.1.1.0.1) tt) c.args.self.inside in
    let e = c.truncating_f32_to_u64.ensures ∙ rw c.fabsf.ensures g.0 in
    record { value = e; small = rw e g.1 }
