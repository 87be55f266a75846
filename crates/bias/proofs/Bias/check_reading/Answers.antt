-- `bias::Bias::check_reading` meets its contract, by whether all is finite and whether what was given is.
use Rattle.bias.proofs.Readings.{unrefused, refused_7, refused_5}
use Rattle.bias.proofs.Bias.check_reading.Goals as goal

pub returns-then-all_finite : goal.returns-then-all_finite
returns-then-all_finite c = unrefused _ _ c.requires c.all_finite.ensures c.if-all_finite.true

pub returns-then-is_finite : goal.returns-then-is_finite
returns-then-is_finite c =
    refused_7 _ _ c.requires c.all_finite.ensures c.is_finite.ensures c.is_finite-2.ensures
    c.if-all_finite.false c.if-is_finite.true

pub returns : goal.returns
returns c =
    refused_5 _ _ c.requires c.all_finite.ensures c.is_finite.ensures c.is_finite-2.ensures
    c.if-is_finite.false
