-- Which lengths and versions a restore takes: `TwoEditions` holds. Assumes nothing.
use Prim.Native.Nat.{ℕ}
use mathlib.Core.Path.{◌≡◌, ap, ◌∙◌}
use mathlib.Core.Bool.{Bool, true, false, cond}
use mathlib.Core.List.{List, []}
use mathlib.Core.Logic.{◌⊎◌, inl, inr}
use lib.Dec.{eqb}
use lib.ListN.{length}
use borrow.Author.Tests.{ne_eqb}
use Rattle.answer.specs.Refusals.{refusal_of}
use Rattle.answer.proofs.Ordering.{at_once}
use Rattle.wire.specs.Wire.{u16_at}
use Rattle.bias.specs.Estimator.{finite_bias}
use Rattle.offset.specs.Record.{record_checks}
use Rattle.offset.proofs.Accepting.{other_length}
use Rattle.editions.specs.Edition.{first, second, edition_checks}
use Rattle.editions.specs.Restore.{TwoEditions}
use Rattle.editions.proofs.Accepting.{sound}

module _ (s : List ℕ) (m : ℕ) (f : Bool) where
  -- t is whether there are 34 bytes
  taken : (t : Bool) → refusal_of (edition_checks (cond t second first) s m f) ≡ 0
      → ((length s ≡ 18) × (u16_at s 3 ≡ 1)) ⊎ ((length s ≡ 34) × (u16_at s 3 ≡ 2))
  taken true z = let g = (sound second s m f z).part in inr (g.size, g.version)
  taken false z = let g = (sound first s m f z).part in inl (g.size, g.version)

pub two_editions : TwoEditions
two_editions b s m =
    let f = finite_bias b in
    record {
      neither = λ h k.
          ap (λ (t : Bool). refusal_of (edition_checks (cond t second first) s m f)) (ne_eqb (length s) 34 k)
          ∙ at_once (record_checks 18 1 s m f) [] 0 (other_length 18 1 s m f h);
      either = λ z. taken s m f (eqb (length s) 34) z;
    }
