-- 02's P8: stored records move up, given settings, and back down, dropping them.
use Rattle.std.specs.Prelude.{ℕ, ◌≡◌, true, not, List, ◌∷◌, ◌++◌, T, eqb, length, take}
use Rattle.std.specs.Float.{binary32}
use Rattle.std.specs.Float.Ieee.{fits}
use Rattle.answer.specs.Refusals.{Check, check}
use Rattle.answer.specs.Promises.{Changed}
use Rattle.bias.specs.declared.BiasSettings.{BiasSettings}
use Rattle.bias.specs.Calls.{settings_checks}
use Rattle.wire.specs.Wire.{put_u16, bits_of}
use Rattle.offset.specs.Record.{bytes_of}
use Rattle.offset.specs.OneRecord.{Bytes}
use Rattle.editions.specs.declared.Edition.{Edition}
use Rattle.editions.specs.Edition.{first, second, settings_at, edition_checks}

-- ---- what is refused

-- the room has the length of the other edition, and the record is one of its own
abbrev pub move_checks : Edition → Edition → List ℕ → ℕ → List Check
move_checks from to s room = check 1 (not (eqb room to.layout.size)) ∷ edition_checks from s 0 true

abbrev pub up_checks : List ℕ → BiasSettings → ℕ → List Check
up_checks s p room = move_checks first second s room ++ settings_checks p

abbrev pub down_checks : List ℕ → ℕ → List Check
down_checks s room = move_checks second first s room

-- ---- what is written

-- the 18 bytes in order, with another version
abbrev pub part_of : ℕ → List ℕ → List ℕ
part_of version s = put_u16 (take first.layout.size s) 3 version

-- bit for bit: a minus zero stays one
abbrev pub settings_bytes : BiasSettings → List ℕ
settings_bytes p =
    bytes_of (bits_of p.sample_rate)
    ++ bytes_of (bits_of p.cutoff_frequency)
    ++ bytes_of (bits_of p.stationary_threshold)
    ++ bytes_of (bits_of p.stationary_period)

abbrev pub up_of : List ℕ → BiasSettings → List ℕ
up_of s p = part_of second.layout.version s ++ settings_bytes p

abbrev pub down_of : List ℕ → List ℕ
down_of s = part_of first.layout.version s

-- ---- the promises: r is the refusal's number, and `after` holds the moved record, or where it is refused what was there

abbrev pub MovesUp : List ℕ → BiasSettings → List ℕ → List ℕ → ℕ → Type 0
MovesUp s p before after r = Changed (up_checks s p (length before)) (up_of s p) before after r

abbrev pub MovesDown : List ℕ → List ℕ → List ℕ → ℕ → Type 0
MovesDown s before after r = Changed (down_checks s (length before)) (down_of s) before after r

-- ---- the statements

-- settings of f32 numbers, as all `BiasSettings` of the code are
pub record SingleSettings (p : BiasSettings) : Type 0 where
  pub rate : T (fits binary32 p.sample_rate)
  pub cutoff : T (fits binary32 p.cutoff_frequency)
  pub threshold : T (fits binary32 p.stationary_threshold)
  pub period : T (fits binary32 p.stationary_period)

-- what was moved up moves down again, and gives the first bytes
abbrev pub UpDown : Type 0
UpDown =
    (s : List ℕ) (p : BiasSettings) (t up u down : List ℕ) (n : ℕ) → SingleSettings p → MovesUp s p t up 0
    → length u ≡ first.layout.size → MovesDown up u down n → (n ≡ 0) × (down ≡ s)

-- what was moved down moves up again with the settings that it had, and gives the first bytes
abbrev pub DownUp : Type 0
DownUp =
    (s t down u up : List ℕ) (n : ℕ) → Bytes s → MovesDown s t down 0
    → length u ≡ second.layout.size → MovesUp down (settings_at s) u up n → (n ≡ 0) × (up ≡ s)

-- the settings of a record that was moved up are those that were given
abbrev pub Held : Type 0
Held = (s : List ℕ) (p : BiasSettings) (t up : List ℕ) → SingleSettings p → MovesUp s p t up 0 → settings_at up ≡ p

-- where a move refuses it has written nothing
pub record Unwritten : Type 0 where
  pub up : (s : List ℕ) (p : BiasSettings) (before after : List ℕ) (n : ℕ) → MovesUp s p before after n → (n ≡ 0 → ⊥) → after ≡ before
  pub down : (s before after : List ℕ) (n : ℕ) → MovesDown s before after n → (n ≡ 0 → ⊥) → after ≡ before
