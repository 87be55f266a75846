-- The number of a record's checks by an edition, from that of its offset's part. Assumes nothing.
use Prim.Native.Nat.{ℕ}
use mathlib.Core.Path.{◌≡◌, ap, sym, ◌∙◌}
use mathlib.Core.Bool.{Bool, false, not, cond}
use mathlib.Core.List.{List, []}
use Rattle.answer.specs.Refusals.{refusal_of}
use Rattle.answer.proofs.Tests.{still}
use Rattle.answer.proofs.Ordering.{at_once_by, later}
use Rattle.bias.specs.declared.BiasSettings.{BiasSettings}
use Rattle.bias.specs.Calls.{settings_checks}
use Rattle.offset.specs.Record.{record_checks}
use Rattle.editions.specs.declared.Edition.{Edition}
use Rattle.editions.specs.Edition.{settings_at, held_checks, edition_checks}
use Rattle.editions.proofs.Accepting.{part_numbered}

module _ (e : Edition) (s : List ℕ) (m : ℕ) (f : Bool) where
  -- where the part is refused
  pub by_part : {n : ℕ} → n ≡ refusal_of (record_checks e.layout.size e.layout.version s m f) → (n ≡ 0 → ⊥) → n ≡ refusal_of (edition_checks e s m f)
  by_part en h = at_once_by (record_checks e.layout.size e.layout.version s m f) (held_checks e s) en h

  -- and where it is not
  module _ (z : 0 ≡ refusal_of (record_checks e.layout.size e.layout.version s m f)) where
    by_settings : {b : Bool} → e.settings ≡ b → refusal_of (edition_checks e s m f) ≡ refusal_of (cond b (settings_checks (settings_at s)) [])
    by_settings h =
        later (record_checks e.layout.size e.layout.version s m f) (held_checks e s) (part_numbered e s m f) (sym z)
        ∙ ap (λ (b : Bool). refusal_of (cond b (settings_checks (settings_at s)) [])) h

    pub with_settings_lem : not e.settings ≡ false → {p : BiasSettings} {k : ℕ} → p ≡ settings_at s → k ≡ refusal_of (settings_checks p)
        → k ≡ refusal_of (edition_checks e s m f)
    with_settings_lem h ep ek = ek ∙ ap (λ (p : BiasSettings). refusal_of (settings_checks p)) ep ∙ sym (by_settings (still e.settings h))
