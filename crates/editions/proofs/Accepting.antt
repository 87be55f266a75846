-- What an accepted record of an edition has, and an accepted move, and that this is all they need. Assumes nothing.
use Prim.Native.Nat.{ℕ}
use mathlib.Core.Path.{◌≡◌, ◌∙◌}
use mathlib.Core.Bool.{Bool, true}
use mathlib.Core.List.{List}
use lib.Dec.{T, eqb}
use borrow.Author.Tests.{eqb-true}
use Rattle.answer.specs.Refusals.{refusal_of}
use Rattle.answer.specs.Order.{numbered}
use Rattle.answer.proofs.Tests.{agrees}
use Rattle.answer.proofs.Answering.{passes, passed}
use Rattle.answer.proofs.Ordering.{later, both_pass}
use Rattle.bias.specs.declared.BiasSettings.{BiasSettings}
use Rattle.bias.specs.Calls.{settings_checks}
use Rattle.offset.specs.Record.{record_checks}
use Rattle.offset.proofs.Accepting.{Good, good, good_passes}
use Rattle.editions.specs.declared.Edition.{Edition}
use Rattle.editions.specs.Edition.{first, second, held_checks, edition_checks}
use Rattle.editions.specs.Move.{move_checks, up_checks}

-- ---- a record

-- it is good by the edition's length and version, and its settings are accepted
pub record Sound (e : Edition) (s : List ℕ) (m : ℕ) (f : Bool) : Type 0 where
  pub part : Good e.layout.size e.layout.version s m f
  pub held : refusal_of (held_checks e s) ≡ 0

module _ (e : Edition) (s : List ℕ) (m : ℕ) (f : Bool) where
  pub part_numbered : T (numbered (record_checks e.layout.size e.layout.version s m f))
  unfolding numbered record_checks
  part_numbered = tt

  pub sound : refusal_of (edition_checks e s m f) ≡ 0 → Sound e s m f
  sound z =
      let p = both_pass (record_checks e.layout.size e.layout.version s m f) (held_checks e s) part_numbered z in
      record { part = good _ _ s m f p.0; held = p.1 }

  pub sound_passes : Sound e s m f → refusal_of (edition_checks e s m f) ≡ 0
  sound_passes g = later (record_checks e.layout.size e.layout.version s m f) (held_checks e s) part_numbered (good_passes _ _ s m f g.part) ∙ g.held

-- ---- a move

pub record Movable (from to : Edition) (s : List ℕ) (room : ℕ) : Type 0 where
  pub fits : room ≡ to.layout.size
  pub source : Sound from s 0 true

module _ (from to : Edition) (s : List ℕ) (room : ℕ) where
  pub movable : refusal_of (move_checks from to s room) ≡ 0 → Movable from to s room
  movable z =
      let p = passed 0 (eqb room to.layout.size) _ z in
      record { fits = eqb-true room to.layout.size p.0; source = sound from s 0 true p.1 }

  pub movable_passes : Movable from to s room → refusal_of (move_checks from to s room) ≡ 0
  movable_passes g = passes 1 _ (agrees room to.layout.size g.fits) ∙ sound_passes from s 0 true g.source

-- a move up, with settings
module _ (s : List ℕ) (p : BiasSettings) (room : ℕ) where
  pub move_numbered : T (numbered (move_checks first second s room))
  unfolding numbered record_checks
  move_numbered = tt

  pub up_movable : refusal_of (up_checks s p room) ≡ 0 → Movable first second s room × (refusal_of (settings_checks p) ≡ 0)
  up_movable z =
      let q = both_pass (move_checks first second s room) (settings_checks p) move_numbered z in
      (movable first second s room q.0, q.1)

  pub up_passes : Movable first second s room → refusal_of (settings_checks p) ≡ 0 → refusal_of (up_checks s p room) ≡ 0
  up_passes g h = later (move_checks first second s room) (settings_checks p) move_numbered (movable_passes first second s room g) ∙ h
