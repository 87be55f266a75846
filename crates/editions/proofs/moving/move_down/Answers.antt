-- `editions::moving::move_down` meets its contract: what passes the move's checks has room, and the part is stored.
use native.Mathlib.Omega.{arith}
use mathlib.Core.Path.{refl, sym}
use lib.ListN.{length}
use Rattle.answer.proofs.Answering.{becomes}
use Rattle.editions.specs.Edition.{first, second}
use Rattle.editions.proofs.Accepting.{movable}
use Rattle.editions.proofs.Storing.{put_down}
use Rattle.editions.proofs.moving.move_down.Goals as goal

pub put_part-requires : goal.put_part-requires
put_part-requires c =
    let m = movable second first c.args.source.now (length c.args.out.now) (sym c.in_ok-check_move.ensures) in
    (omega (arith, m.source.part.size), omega (arith, m.fits))

pub returns : goal.returns
returns c =
    let a = c.args in
    let m = movable second first a.source.now (length a.out.now) (sym c.in_ok-check_move.ensures) in
    becomes _ _ _ c.in_ok-check_move.ensures refl (put_down a.source.now a.out.now m.fits c.put_part.ensures)
