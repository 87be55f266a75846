-- `bias::Bias::all_finite` meets its contract: the next state is the state with another timer, or with another offset.
use Rattle.bias.proofs.Finite.{standing, growing}
use Rattle.bias.proofs.Bias.all_finite.Goals as goal

pub returns-then-exceeds-self : goal.returns-then-exceeds-self
returns-then-exceeds-self c =
    standing _ _ c.requires c.exceeds.ensures c.is_finite.ensures c.is_finite-then-exceeds-self.ensures c.if-exceeds-self.true

pub returns : goal.returns
returns c =
    growing _ _ c.requires c.exceeds.ensures c.is_finite-2.ensures c.is_finite-3.ensures c.if-exceeds-self.false
