-- `offset::restoring::reframed` meets its contract: undone, and then turned.
use native.Mathlib.Omega.{arith}
use mathlib.Core.Path.{refl, ap, ◌∙◌}
use Rattle.vector.specs.Vectors.{finite_vector}
use Rattle.offset.proofs.Turning.{turn_finite, is_inverse, inverse_number, inverse_below, reframes}
use Rattle.offset.proofs.restoring.reframed.Goals as goal

pub unwrap-inverse-requires : goal.unwrap-inverse-requires
unwrap-inverse-requires c = rw (is_inverse c.requires.0 c.inverse.ensures) refl

pub turned-requires : goal.turned-requires
turned-requires c =
    (inverse_below c.args.vector c.requires.0 (inverse_number c.requires.0 c.inverse.ensures c.unwrap-inverse.ensures), c.requires.2)

pub turned-requires-2 : goal.turned-requires-2
turned-requires-2 c = (omega arith, ap finite_vector c.turned.ensures ∙ turn_finite _ _ ∙ c.requires.2)

pub returns : goal.returns
returns c = reframes _ _ _ (inverse_number c.requires.0 c.inverse.ensures c.unwrap-inverse.ensures) c.turned.ensures c.turned-2.ensures
