-- Which changes of a state leave its floats finite. Assumes nothing.
use mathlib.Core.Path.{◌≡◌, refl}
use mathlib.Core.Bool.{Bool, true, false, ◌&&◌, false≢true}
use lib.IntN.{ℤ}
use lib.Ieee.{Float, of_bits}
use lib.Ieee.Scale.{finite}
use Rattle.vector.specs.Vectors.{finite_vector, zero_vector}
use Rattle.math.specs.declared.quaternion.Quaternion.{Quaternion}
use Rattle.math.specs.Quaternions.{finite_quaternion}
use Rattle.settings.specs.declared.Settings.{Settings}
use Rattle.settings.specs.declared.config.Config.{Config}
use Rattle.settings.specs.Config.{finite_settings, finite_config}
use Rattle.step.specs.declared.Rejection.{Rejection}
use Rattle.step.specs.Sensor.{reset_of, finite_rejection}
use Rattle.ahrs.specs.declared.Ahrs.{Ahrs}
use Rattle.ahrs.specs.Filter.{finite_state, fresh_of, skipped_startup, with_threshold, with_settings, with_sample_period, with_quaternion}
use Rattle.ahrs.proofs.Finite.{whole, parts}

-- another first part
with_first : (a b c d e f g : Bool) → b ≡ true → (a && c && d && e && f && g) ≡ true → (b && c && d && e && f && g) ≡ true
with_first true b c d e f g p q = rw p q
with_first false b c d e f g p q = absurd (false≢true q)

pub zero_finite : finite_vector zero_vector ≡ true
unfolding finite_vector of_bits
zero_finite = refl

reset_finite : (timeout : ℤ) → finite_rejection (reset_of timeout) ≡ true
unfolding finite_rejection reset_of
reset_finite timeout = zero_finite

pub fresh_finite : (t : Settings) (c : Config) → finite_settings t ≡ true → finite_config c ≡ true → finite_state (fresh_of t c) ≡ true
unfolding fresh_of finite_quaternion of_bits
fresh_finite t c p q =
    whole (fresh_of t c)
    (record {
      settings = p;
      config = q;
      quaternion = refl;
      accelerometer = zero_finite;
      gain = refl;
      acceleration = reset_finite _;
      magnetic = reset_finite _;
    })

pub startup_finite : (s : Ahrs) → finite_state s ≡ true → finite_state (skipped_startup s) ≡ true
unfolding skipped_startup finite_state
startup_finite s h = h

threshold_finite : (r : Rejection) (timeout : ℤ) → finite_rejection r ≡ true → finite_rejection (with_threshold r timeout) ≡ true
unfolding with_threshold finite_rejection
threshold_finite r timeout h = h

pub settings_finite
    : (s : Ahrs) (t : Settings) (c : Config)
    → finite_state s ≡ true → finite_settings t ≡ true → finite_config c ≡ true → finite_state (with_settings s t c) ≡ true
unfolding with_settings
settings_finite s t c h p q =
    let f = parts s h in
    whole (with_settings s t c)
    (record {
      settings = p;
      config = q;
      quaternion = f.quaternion;
      accelerometer = f.accelerometer;
      gain = f.gain;
      acceleration = threshold_finite s.acceleration _ f.acceleration;
      magnetic = threshold_finite s.magnetic _ f.magnetic;
    })

pub period_finite : (s : Ahrs) (period : Float) → finite_state s ≡ true → finite period ≡ true → finite_state (with_sample_period s period) ≡ true
unfolding with_sample_period finite_config
period_finite s period h p =
    let f = parts s h in
    let c = s.config in
    whole (with_sample_period s period)
    (record {
      settings = f.settings;
      config =
          with_first (finite c.sample_period) (finite period) (finite c.gain) (finite c.startup_gain_rate)
          (finite c.overrange_threshold) (finite c.acceleration_rejection) (finite c.magnetic_rejection) p f.config;
      quaternion = f.quaternion;
      accelerometer = f.accelerometer;
      gain = f.gain;
      acceleration = f.acceleration;
      magnetic = f.magnetic;
    })

pub quaternion_finite
    : (s : Ahrs) (q : Quaternion) → finite_state s ≡ true → finite_quaternion q ≡ true → finite_state (with_quaternion s q) ≡ true
unfolding with_quaternion
quaternion_finite s q h p =
    let f = parts s h in
    whole (with_quaternion s q)
    (record {
      settings = f.settings;
      config = f.config;
      quaternion = p;
      accelerometer = f.accelerometer;
      gain = f.gain;
      acceleration = f.acceleration;
      magnetic = f.magnetic;
    })
