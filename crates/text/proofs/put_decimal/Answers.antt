-- `text::put_decimal` meets its contract.
use Rattle.text.proofs.Putting.{fits_as}
use Rattle.text.proofs.Digits.{kit_digits}
use Rattle.text.proofs.put_decimal.Goals as goal

pub returns : goal.returns
returns c = let d = c.decimal-k.ensures in fits_as (kit_digits c.ranges.n.fits d.digits d.len) c.put.ensures
