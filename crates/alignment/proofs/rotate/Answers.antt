-- `alignment::rotate` meets its contract: refused by its two tests, or the product with the mounting's matrix.
use Rattle.std.proofs.Common.{ap, not}
use Rattle.alignment.proofs.Returning.{no_mounting, not_finite, rotated}
use Rattle.alignment.proofs.rotate.Goals as goal

pub returns-in-Err : goal.returns-in-Err
returns-in-Err c = no_mounting _ _ c.in-Err.refusal c.in-Err.ensures.0

pub returns-then-not-is_finite : goal.returns-then-not-is_finite
returns-then-not-is_finite c = not_finite _ _ c.in-Ok.ensures.0 c.is_finite.ensures (ap not c.if-not-is_finite.true)

pub returns : goal.returns
returns c =
    let m = c.in-Ok in
    rotated _ _ m.ensures.0 c.is_finite.ensures (ap not c.if-not-is_finite.false) m.ensures.1 c.axes.ensures c.matrix_by.ensures
    c.mul_vector-body.ensures
