-- `lines::feed` meets its contract.
use native.Mathlib.Omega.{arith}
use Rattle.text.proofs.Feeding.{refused}
use Rattle.lines.proofs.Feeding.{feed_none, feed_next, feed_all}
use Rattle.lines.proofs.Promising.{no_room, room}
use Rattle.lines.proofs.feed.Goals as goal

pub returns-then-part-out : goal.returns-then-part-out
returns-then-part-out c = let a = c.args in refused _ _ _ _ _ 0 (no_room a.part.now a.out.now c.if-part-out.true)

pub loop-byte-init : goal.loop-byte-init
loop-byte-init c = feed_none _ _ _

pub take_byte-fed-requires : goal.take_byte-fed-requires
take_byte-fed-requires c = let f = c.loop-byte.invariant in omega (arith, f.room, f.long, c.if-part-out.false)

pub loop-byte-preserved : goal.loop-byte-preserved
loop-byte-preserved c =
    feed_next _ _ _ _ _ _ c.loop-byte.invariant _ _ c.loop-byte-test.true c.take_byte-fed.auto.out c.take_byte-fed.ensures

pub returns : goal.returns
returns c =
    let a = c.args in
    feed_all _ _ _ _ _ _ c.loop-byte.invariant _ (room a.part.now a.out.now c.if-part-out.false) c.loop-byte-test.false
