-- 02 P3: settings by angles come to those by the squared limits that the angles stand for.
use Rattle.std.specs.Prelude.{◌≡◌}
use Rattle.answer.specs.Refusals.{refusal_of}
use Rattle.settings.specs.declared.Settings.{Settings}
use Rattle.settings.specs.declared.limit.Limit.{Limit}
use Rattle.settings.specs.declared.limit.Limit.TheVariants.{Squared}
use Rattle.settings.specs.Limit.{squared_of}
use Rattle.settings.specs.Config.{derived_of, settings_checks}

-- the limit given as the squared one that it stands for
abbrev pub as_squared : Limit → Limit
as_squared l = Squared (squared_of l)

abbrev pub squared_settings : Settings → Settings
squared_settings s =
    record {
      sample_rate = s.sample_rate;
      convention = s.convention;
      gain = s.gain;
      gyroscope_range = s.gyroscope_range;
      acceleration_rejection = as_squared s.acceleration_rejection;
      magnetic_rejection = as_squared s.magnetic_rejection;
      rejection_timeout = s.rejection_timeout;
    }

pub record StandFor : Type 0 where
  -- the same is derived
  pub derived : (s : Settings) → derived_of (squared_settings s) ≡ derived_of s
  -- and what is accepted is accepted so: of no angle from 0 to 90 is the squared limit refused
  pub accepted : (s : Settings) → refusal_of (settings_checks s) ≡ 0 → refusal_of (settings_checks (squared_settings s)) ≡ 0
