-- A state's floats are finite where those of each part are. Assumes nothing.
use mathlib.Core.Path.{◌≡◌, ap₂}
use mathlib.Core.Bool.{true, ◌&&◌}
use lib.Ieee.Scale.{finite}
use Rattle.answer.proofs.Tests.{both}
use Rattle.vector.specs.Vectors.{finite_vector}
use Rattle.math.specs.Quaternions.{finite_quaternion}
use Rattle.settings.specs.Config.{finite_settings, finite_config}
use Rattle.step.specs.Sensor.{finite_rejection}
use Rattle.ahrs.specs.declared.Ahrs.{Ahrs}
use Rattle.ahrs.specs.Filter.{finite_state}

pub record Parts (s : Ahrs) : Type 0 where
  pub settings : finite_settings s.settings ≡ true
  pub config : finite_config s.config ≡ true
  pub quaternion : finite_quaternion s.quaternion ≡ true
  pub accelerometer : finite_vector s.accelerometer ≡ true
  pub gain : finite s.startup_gain ≡ true
  pub acceleration : finite_rejection s.acceleration ≡ true
  pub magnetic : finite_rejection s.magnetic ≡ true

pub whole : (s : Ahrs) → Parts s → finite_state s ≡ true
unfolding finite_state
whole s p =
    let four = ap₂ ◌&&◌ (ap₂ ◌&&◌ (ap₂ ◌&&◌ p.settings p.config) p.quaternion) p.accelerometer in
    ap₂ ◌&&◌ (ap₂ ◌&&◌ (ap₂ ◌&&◌ four p.gain) p.acceleration) p.magnetic

pub parts : (s : Ahrs) → finite_state s ≡ true → Parts s
unfolding finite_state
parts s h =
    let (h6, magnetic) = both _ (finite_rejection s.magnetic) h in
    let (h5, acceleration) = both _ (finite_rejection s.acceleration) h6 in
    let (h4, gain) = both _ (finite s.startup_gain) h5 in
    let (h3, accelerometer) = both _ (finite_vector s.accelerometer) h4 in
    let (h2, quaternion) = both _ (finite_quaternion s.quaternion) h3 in
    let (settings, config) = both _ (finite_config s.config) h2 in
    record {
      settings = settings;
      config = config;
      quaternion = quaternion;
      accelerometer = accelerometer;
      gain = gain;
      acceleration = acceleration;
      magnetic = magnetic;
    }
