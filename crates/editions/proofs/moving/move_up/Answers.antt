-- `editions::moving::move_up` meets its contract: what passes the move's checks has room, and part and settings are stored.
use Prim.Native.Nat.{◌≤◌}
use native.Mathlib.Omega.{arith}
use mathlib.Core.Path.{refl, sym}
use lib.ListN.{length}
use Rattle.answer.proofs.Answering.{becomes}
use Rattle.editions.proofs.Accepting.{up_movable}
use Rattle.editions.proofs.Storing.{put_up}
use Rattle.editions.proofs.moving.move_up.Goals as goal

pub put_part-requires : goal.put_part-requires
put_part-requires c =
    let m = (up_movable c.args.source.now c.args.settings (length c.args.out.now) (sym c.in_ok-check_up.ensures)).0 in
    (omega (arith, m.source.part.size), omega (arith, m.fits))

pub returns : goal.returns
returns c =
    let a = c.args in
    let m = (up_movable a.source.now a.settings (length a.out.now) (sym c.in_ok-check_up.ensures)).0 in
    let long : 18 ≤ length a.source.now = omega (arith, m.source.part.size) in
    becomes _ _ _ c.in_ok-check_up.ensures refl (put_up a.source.now a.settings a.out.now long m.fits c.put_part.ensures c.put_settings.ensures)
