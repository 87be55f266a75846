-- `alignment::to_matrix` meets its contract: the matrix by the mounting's places.
use Rattle.alignment.proofs.Returning.{matrix}
use Rattle.alignment.proofs.to_matrix.Goals as goal

pub returns : goal.returns
returns c =
    let m = c.in_ok-mounting in
    matrix _ m.ensures.1 m.ensures.0 c.axes.ensures c.matrix_by.ensures
