-- `offset::put_offset` meets its contract, store by store.
use Prim.Native.Nat.{ℕ}
use borrow.Author.Rules.{rules}
use mathlib.Core.Path.{ap, ◌∙◌}
use mathlib.Core.List.{List, ◌++◌}
use lib.ListN.{drop}
use Rattle.wire.specs.Wire.{put_u16}
use Rattle.vector.specs.Vectors.{Singles}
use Rattle.offset.proofs.Storing.{puts}
use Rattle.offset.proofs.put_offset.Goals as goal

pub returns : goal.returns
returns c =
    let singles : Singles c.args.offset.vector = record { x = search rules; y = search rules; z = search rules } in
    let version = c.put_u16.ensures ∙ ap (λ (mark : List ℕ). put_u16 (mark ++ drop 3 c.args.bytes.now) 3 1) c.copy_from_slice.ensures.after in
    puts c.args.offset c.args.bytes.now singles c.requires version c.bits_of.ensures c.put_bits.ensures c.bits_of-2.ensures
    c.put_bits-2.ensures c.bits_of-3.ensures c.put_bits-3.ensures
