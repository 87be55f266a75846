-- Up then down gives the first bytes, and so does down then up with the same settings; a refused move has written nothing. Assumes nothing.
use Prim.Native.Nat.{ℕ, ◌/◌, ◌%◌, ◌<◌}
use native.Mathlib.Omega.{arith}
use mathlib.Core.Path.{◌≡◌, refl, ap, ap₂, sym, ◌∙◌}
use mathlib.Core.Bool.{true}
use mathlib.Core.List.{List, [], ◌∷◌, ◌++◌}
use lib.ListN.{length, get_or}
use lib.Ieee.{binary32}
use lib.Ieee.Bits.{of_bits-to_bits}
use Rattle.answer.specs.Refusals.{refusal_of}
use Rattle.answer.proofs.Tests.{all_four}
use Rattle.answer.proofs.Answering.{all_pass, passed, is_new, is_old}
use Rattle.bias.specs.declared.BiasSettings.{BiasSettings}
use Rattle.bias.specs.Settings.{finite_settings}
use Rattle.bias.specs.Calls.{deriving_checks, settings_checks}
use Rattle.wire.specs.Wire.{u16_at, bits_of}
use Rattle.wire.proofs.Laws.{digits, spell, spelled}
use Rattle.offset.specs.OneRecord.{Bytes}
use Rattle.offset.proofs.Accepting.{Good}
use Rattle.offset.proofs.WrittenRead.{pattern_back}
use Rattle.editions.specs.Edition.{first, second, settings_at}
use Rattle.editions.specs.Move.{part_of, settings_bytes, up_of, down_of, MovesUp, MovesDown}
use Rattle.editions.specs.Move.{SingleSettings, UpDown, DownUp, Held, Unwritten}
use Rattle.editions.proofs.Part.{fronted, alone, before, moved_good}
use Rattle.editions.proofs.Accepting.{Sound, Movable, movable, movable_passes, up_movable, up_passes}

-- a version that a record has already is put to no effect
stamped : (v : ℕ) (s t : List ℕ) → v < 256 → u16_at s 3 ≡ v → fronted v s t ≡ spell 18 s 0 ++ t
stamped v s t h e =
    let low : v % 256 ≡ get_or s 3 0 = omega arith in
    let high : v / 256 ≡ get_or s 4 0 = omega arith in
    ap₂ (λ (a b : ℕ). get_or s 0 0 ∷ get_or s 1 0 ∷ get_or s 2 0 ∷ a ∷ b ∷ (spell 13 s 5 ++ t)) low high

-- a part of a part: the later version stands
parted : (v w : ℕ) (s t : List ℕ) {u : List ℕ} → u ≡ fronted w s t → part_of v u ≡ fronted v s []
parted v w s t e = ap (part_of v) e

-- ---- up

-- settings are made again by the patterns that they have
module _ (p : BiasSettings) (f : SingleSettings p) (s : List ℕ) where
  pub settings_back : settings_at (fronted 2 s (settings_bytes p)) ≡ p
  unfolding settings_at
  settings_back =
      simp (digits (bits_of p.sample_rate), digits (bits_of p.cutoff_frequency))
      (simp (digits (bits_of p.stationary_threshold), digits (bits_of p.stationary_period))
      (simp (of_bits-to_bits binary32 p.sample_rate f.rate, of_bits-to_bits binary32 p.cutoff_frequency f.cutoff)
      (simp (of_bits-to_bits binary32 p.stationary_threshold f.threshold, of_bits-to_bits binary32 p.stationary_period f.period))))

-- what was moved up
module _ (s : List ℕ) (p : BiasSettings) (t up : List ℕ) (w : MovesUp s p t up 0) where
  up_taken : Movable first second s (length t) × (refusal_of (settings_checks p) ≡ 0)
  up_taken = up_movable s p (length t) (sym w.number)

  pub up_first : Sound first s 0 true
  up_first = up_taken.0.source

  up_source : Good 18 1 s 0 true
  up_source = up_first.part

  pub up_front : up ≡ fronted 2 s (settings_bytes p)
  up_front = is_new _ _ w.holds (sym w.number) ∙ before 2 s (omega (arith, up_source.size)) (settings_bytes p)

  module _ (f : SingleSettings p) where
    up_held : settings_at up ≡ p
    up_held = ap settings_at up_front ∙ settings_back p f s

    pub up_sound : Sound second up 0 true
    up_sound =
        record {
          part = moved_good 2 s (settings_bytes p) up_front up_source 0 (omega arith) refl;
          held = ap (λ (q : BiasSettings). refusal_of (settings_checks q)) up_held ∙ up_taken.1;
        }

  up_back : down_of up ≡ s
  up_back = parted 1 2 s _ up_front ∙ stamped 1 s [] (omega arith) up_source.version ∙ sym (spelled 18 s 0 up_source.size)

pub up_down : UpDown
up_down s p t up u down n f w l m =
    let z = movable_passes second first up (length u) (record { fits = l; source = up_sound s p t up w f }) in
    (m.number ∙ z, is_new _ _ m.holds z ∙ up_back s p t up w)

pub held : Held
held s p t up f w = up_held s p t up w f

-- ---- down

-- the bytes of settings that are accepted are those that they were read from
module _ (s : List ℕ) (bytes : Bytes s) (z : refusal_of (settings_checks (settings_at s)) ≡ 0) where
  bytes_back : settings_bytes (settings_at s) ≡ spell 16 s 18
  unfolding settings_at finite_settings
  bytes_back =
      let p = settings_at s in
      let f = all_four _ _ _ _ (passed 4 (finite_settings p) (deriving_checks p) z).0 in
      let rate = pattern_back s bytes 18 f.0 in
      let cutoff = pattern_back s bytes 22 f.3 in
      let threshold = pattern_back s bytes 26 f.1 in
      let period = pattern_back s bytes 30 f.2 in
      cc

module _ (s t down : List ℕ) (w : MovesDown s t down 0) where
  down_taken : Movable second first s (length t)
  down_taken = movable second first s (length t) (sym w.number)

  pub down_second : Sound second s 0 true
  down_second = down_taken.source

  down_source : Good 34 2 s 0 true
  down_source = down_second.part

  pub down_front : down ≡ fronted 1 s []
  down_front = is_new _ _ w.holds (sym w.number) ∙ alone 1 s (omega (arith, down_source.size))

  pub down_sound : Sound first down 0 true
  down_sound = record { part = moved_good 1 s [] down_front down_source 0 (omega arith) refl; held = all_pass }

  down_back : Bytes s → up_of down (settings_at s) ≡ s
  down_back bytes =
      ap (λ (x : List ℕ). x ++ settings_bytes (settings_at s)) (parted 2 1 s [] down_front)
      ∙ stamped 2 s (settings_bytes (settings_at s)) (omega arith) down_source.version
      ∙ ap (λ (x : List ℕ). spell 18 s 0 ++ x) (bytes_back s bytes down_second.held)
      ∙ sym (spelled 34 s 0 down_source.size)

pub down_up : DownUp
down_up s t down u up n bytes w l m =
    let source : Movable first second down (length u) = record { fits = l; source = down_sound s t down w } in
    let z = up_passes down (settings_at s) (length u) source (down_second s t down w).held in
    (m.number ∙ z, is_new _ _ m.holds z ∙ down_back s t down w bytes)

-- ---- refused

pub unwritten : Unwritten
unwritten = record { up = λ s p t u n w h. is_old _ _ _ w h; down = λ s t u n w h. is_old _ _ _ w h }
