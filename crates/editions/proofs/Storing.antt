-- The stores of a move leave the moved record. Assumes nothing.
use Prim.Native.Nat.{ℕ, ◌≤◌}
use native.Mathlib.Omega.{arith}
use mathlib.Core.Path.{◌≡◌, ap, ap₂, sym, ◌∙◌}
use mathlib.Core.List.{List, ◌++◌, append-nil}
use lib.ListN.{length, drop, drop_of_length-le}
use Rattle.bias.specs.declared.BiasSettings.{BiasSettings}
use Rattle.wire.proofs.Laws.{spelled}
use Rattle.editions.specs.Move.{part_of, settings_bytes, up_of, down_of}
use Rattle.editions.specs.Inner.{put_settings}
use Rattle.editions.proofs.Part.{alone}

-- into 34 bytes
pub put_up : (s : List ℕ) (p : BiasSettings) (out : List ℕ) {x y : List ℕ} → 18 ≤ length s → length out ≡ 34
    → x ≡ part_of 2 s ++ drop 18 out → y ≡ put_settings p x → y ≡ up_of s p
put_up s p out h l ex ey =
    ey
    ∙ ap (put_settings p) ex
    ∙ ap₂ (λ (x y : List ℕ). put_settings p (x ++ y)) (alone 2 s h) (spelled 16 out 18 l)
    ∙ ap (λ (x : List ℕ). x ++ settings_bytes p) (sym (alone 2 s h))

-- into 18
pub put_down : (s out : List ℕ) {x : List ℕ} → length out ≡ 18 → x ≡ part_of 1 s ++ drop 18 out → x ≡ down_of s
put_down s out l ex = ex ∙ ap (λ (x : List ℕ). part_of 1 s ++ x) (drop_of_length-le out {i = 18} (omega arith)) ∙ append-nil (part_of 1 s)
