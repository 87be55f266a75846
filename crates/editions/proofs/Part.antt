-- The offset's part of a record with another version, whatever stands behind it: mark, mounting and offset are as they were. Assumes nothing.
use Prim.Native.Nat.{ℕ, ◌+◌, ◌<◌, ◌≤◌}
use native.Mathlib.Omega.{arith}
use mathlib.Core.Path.{◌≡◌, ap, ap₂, ◌∙◌}
use mathlib.Core.Bool.{Bool, true}
use mathlib.Core.List.{List, [], ◌++◌}
use lib.ListN.{length}
use Rattle.vector.specs.declared.Vector.{Vector}
use Rattle.bias.specs.declared.Bias.{Bias}
use Rattle.bias.specs.Estimator.{with_offset}
use Rattle.wire.specs.Wire.{u16_at, put_u16}
use Rattle.wire.proofs.Laws.{spell, spelled_part}
use Rattle.offset.specs.Record.{has_mark, mounting_at, vector_at, storable_vector}
use Rattle.offset.specs.Restore.{reframed_of, restored_of}
use Rattle.offset.proofs.Accepting.{Good}
use Rattle.editions.specs.Move.{part_of}

-- the part byte by byte, and what stands behind it
abbrev pub fronted : ℕ → List ℕ → List ℕ → List ℕ
fronted v s t = put_u16 (spell 18 s 0) 3 v ++ t

module _ (v : ℕ) (s : List ℕ) (h : 18 ≤ length s) where
  pub alone : part_of v s ≡ fronted v s []
  alone = ap (λ (l : List ℕ). put_u16 l 3 v) (spelled_part 18 s 0 h)

  pub before : (t : List ℕ) → part_of v s ++ t ≡ fronted v s t
  before t = ap (λ (l : List ℕ). l ++ t) alone

module _ (v : ℕ) (s t : List ℕ) {u : List ℕ} (e : u ≡ fronted v s t) where
  mark_kept : has_mark u ≡ has_mark s
  unfolding has_mark
  mark_kept = ap has_mark e

  mounting_kept : mounting_at u ≡ mounting_at s
  mounting_kept = ap mounting_at e

  vector_kept : vector_at u ≡ vector_at s
  unfolding vector_at
  vector_kept = ap vector_at e

  version_put : u16_at u 3 ≡ v
  version_put = ap (λ (l : List ℕ). u16_at l 3) e ∙ omega arith

  moved_length : length u ≡ 18 + length t
  moved_length = ap length e ∙ omega arith

  -- a good record stays good, by the length and version that it now has
  pub moved_good : {n w j : ℕ} {k : Bool} → Good n w s j k → (m : ℕ) → m < 24 → {f : Bool} → f ≡ true → Good (18 + length t) v u m f
  moved_good g m h finite =
      record {
        size = moved_length;
        mark = mark_kept ∙ g.mark;
        version = version_put;
        other = h;
        mounting = rw mounting_kept g.mounting;
        state = finite;
        floats = ap storable_vector vector_kept ∙ g.floats;
      }

  -- and the same offset is restored from it
  pub same_restored : (b : Bias) (m : ℕ) → restored_of b u m ≡ restored_of b s m
  same_restored b m = ap₂ (λ (x : Vector) (n : ℕ). with_offset b (reframed_of x n m)) vector_kept mounting_kept
