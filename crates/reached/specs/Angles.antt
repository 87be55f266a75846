-- 02 P3, "demand 2 holds from the derived limit on": of two filters, one by angles and one by the squared limits that these stand for, every call tells the
-- same and leaves the same, but for how the limits were given. So what is compared with the Rust of squared limits is said of angles too.
use Rattle.std.specs.Prelude.{◌≡◌, List, [], ◌∷◌}
use Rattle.answer.specs.Refusals.{refusal_of}
use Rattle.answer.specs.Runs.{Step, run_of}
use Rattle.settings.specs.declared.Settings.{Settings}
use Rattle.settings.specs.Config.{derived_of, settings_checks}
use Rattle.settings.specs.Angles.{squared_settings}
use Rattle.ahrs.specs.declared.Ahrs.{Ahrs}
use Rattle.ahrs.specs.Filter.{fresh_of}
use Rattle.ahrs.specs.Read.{gravity_of, linear_of, earth_of, flags_of, states_of, ignored_of}
use Rattle.reached.specs.Runs.{Call, outline_of}

-- a state whose limits are given as the squared ones that they stand for
abbrev pub squared_state : Ahrs → Ahrs
squared_state s =
    record {
      settings = squared_settings s.settings;
      config = s.config;
      quaternion = s.quaternion;
      accelerometer = s.accelerometer;
      startup = s.startup;
      startup_gain = s.startup_gain;
      overrange_recovery = s.overrange_recovery;
      acceleration = s.acceleration;
      magnetic = s.magnetic;
    }

pub record AlikeStep (p q : Step Ahrs) : Type 0 where
  pub told : p.told ≡ q.told
  pub state : squared_state p.state ≡ squared_state q.state

pub data AlikeRun : List (Step Ahrs) → List (Step Ahrs) → Type 0 where
  none : AlikeRun [] []
  next : {p q : Step Ahrs} {ps qs : List (Step Ahrs)} → AlikeStep p q → AlikeRun ps qs → AlikeRun (p ∷ ps) (q ∷ qs)

-- accepted settings, any calls
abbrev pub FromTheLimitOn : Type 0
FromTheLimitOn =
    (t : Settings) → refusal_of (settings_checks t) ≡ 0 → (cs : List Call)
    → AlikeRun (run_of outline_of (fresh_of t (derived_of t)) cs)
    (run_of outline_of (fresh_of (squared_settings t) (derived_of (squared_settings t))) cs)

-- and what is read of a state, but its settings, is the same
pub record ReadsAlike : Type 0 where
  pub gravity : (s : Ahrs) → gravity_of (squared_state s) ≡ gravity_of s
  pub linear : (s : Ahrs) → linear_of (squared_state s) ≡ linear_of s
  pub earth : (s : Ahrs) → earth_of (squared_state s) ≡ earth_of s
  pub flags : (s : Ahrs) → flags_of (squared_state s) ≡ flags_of s
  pub states : (s : Ahrs) → states_of (squared_state s) ≡ states_of s
  pub ignored : (s : Ahrs) → ignored_of (squared_state s) ≡ ignored_of s
