-- `text::digit` meets its contract.
use Prim.Native.Nat.{◌%◌}
use native.Mathlib.Omega.{arith}
use mathlib.Core.Path.{ap, ◌∙◌}
use Rattle.text.specs.Text.{digit_of}
use Rattle.text.proofs.Glyphs.{stands}
use Rattle.text.proofs.digit.Goals as goal

pub returns : goal.returns
unfolding digit_of
returns c = stands 16 0 (c.args.n % 16) (omega arith) ∙ ap digit_of (omega arith)
