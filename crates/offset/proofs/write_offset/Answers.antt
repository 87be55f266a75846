-- `offset::write_offset` meets its contract: what passes the write's checks has just room.
use mathlib.Core.Path.{sym}
use Rattle.offset.proofs.Accepting.{writable}
use Rattle.offset.proofs.write_offset.Goals as goal

pub put_offset-requires : goal.put_offset-requires
put_offset-requires c = (writable c.args.offset _ (sym c.in_ok-check_write.ensures)).size
