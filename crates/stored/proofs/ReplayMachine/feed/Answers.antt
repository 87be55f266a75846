-- A replay prints within the slice.
use Rattle.text.proofs.Feeding.{within}
use Rattle.stored.proofs.ReplayMachine.feed.Goals as goal

pub returns : goal.returns
returns c = within _ _ _ _ _ c.feed-fed.ensures c.feed-fed.auto.out
