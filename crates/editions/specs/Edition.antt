-- 02's P8: the editions of the offset record. The first is that of `offset`: 18 bytes, version 1. The second keeps the 18 bytes in order, with
-- version 2, and adds the bias settings as four f32: rate, cutoff, threshold, period; 34 bytes.
use Rattle.std.specs.Prelude.{ℕ, Bool, true, false, cond, List, [], ◌++◌, eqb}
use Rattle.answer.specs.Refusals.{Check}
use Rattle.bias.specs.declared.BiasSettings.{BiasSettings}
use Rattle.bias.specs.Calls.{settings_checks}
use Rattle.wire.specs.Wire.{bits_at, float_of}
use Rattle.offset.specs.Record.{record_length, record_version, record_checks}
use Rattle.editions.specs.declared.Edition.{Edition}

abbrev pub first : Edition
first = record { layout = record { size = record_length; version = record_version }; settings = false }

abbrev pub second : Edition
second = record { layout = record { size = 34; version = 2 }; settings = true }

-- the edition that so many bytes are held to: a length that neither has is refused by the first
abbrev pub edition_of : ℕ → Edition
edition_of n = cond (eqb n second.layout.size) second first

unfoldable pub settings_at : List ℕ → BiasSettings
settings_at s =
    record {
      sample_rate = float_of (bits_at s 18);
      cutoff_frequency = float_of (bits_at s 22);
      stationary_threshold = float_of (bits_at s 26);
      stationary_period = float_of (bits_at s 30);
    }

-- the settings that a record of an edition has are refused as when they are given to the estimator
abbrev pub held_checks : Edition → List ℕ → List Check
held_checks e s = cond e.settings (settings_checks (settings_at s)) []

-- the one rule: the offset's part by the edition's length and version, then the settings; with one more mounting number, and with whether the floats
-- of a state are finite
abbrev pub edition_checks : Edition → List ℕ → ℕ → Bool → List Check
edition_checks e s m f = record_checks e.layout.size e.layout.version s m f ++ held_checks e s
