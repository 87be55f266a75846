-- `trig::wave::Degrees::lifted` meets its contract, by the sign of x.
use Rattle.std.proofs.Common.{ℕ, ◌+◌, ◌-◌, ◌*◌, ap, ◌∙◌}
use Rattle.trig.specs.Wave.{degree}
use Rattle.trig.proofs.Steps.{minus_gives, plus_gives}
use Rattle.trig.proofs.wave.Degrees.lifted.Goals as goal

pub returns-then-self : goal.returns-then-self
returns-then-self c =
    ap (λ (z : ℕ). 360 * degree - z) c.steps-steps.ensures.value ∙ minus_gives c.args.self.x c.args.self.inside c.if-self.true

pub returns : goal.returns
returns c = ap (λ (z : ℕ). 360 * degree + z) c.steps-steps.ensures.value ∙ plus_gives c.args.self.x c.args.self.inside c.if-self.false
