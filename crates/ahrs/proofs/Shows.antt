-- An update's next state is finite only where what was measured is, and all of the state that it does not drop. Assumes nothing.
use mathlib.Core.Path.{◌≡◌, refl, sym, ap₂, ◌∙◌}
use mathlib.Core.Bool.{Bool, true, false, cond, ◌&&◌}
use Rattle.vector.specs.declared.Vector.{Vector}
use Rattle.vector.specs.Vectors.{finite_vector}
use Rattle.vector.proofs.Shows.{mul_shows}
use Rattle.math.specs.Quaternions.{finite_quaternion}
use Rattle.settings.specs.declared.axes.Axes.{Axes}
use Rattle.settings.specs.Config.{finite_settings, finite_config}
use Rattle.settings.specs.Axes.{any_of, over_of}
use Rattle.step.specs.Sensor.{finite_rejection}
use Rattle.step.specs.Direction.{half_gravity_of, half_west_of}
use Rattle.step.specs.Rate.{rate_of}
use Rattle.step.proofs.Shows.{rate_shows, integrated_shows, heading_shows}
use Rattle.answer.proofs.Tests.{both, all_three}
use Rattle.ahrs.specs.declared.Ahrs.{Ahrs}
use Rattle.ahrs.specs.Filter.{finite_state, soft_restarted_of, overrange_of, half_feedback_of, startup_of, feedback_of, displacement_of, updated_of}
use Rattle.ahrs.specs.Inner.{finite_dropped}
use Rattle.ahrs.proofs.Finite.{whole, parts}

-- what an update is given
abbrev pub given : Ahrs → Vector → Vector → Vector → Bool
given s g a m = finite_state s && (finite_vector g && finite_vector a && finite_vector m)

-- an overrange keeps settings, what they derive, and the quaternion
abbrev Kept : Ahrs → Ahrs → Type 0
Kept s n =
    (finite_settings n.settings ≡ finite_settings s.settings) × (finite_config n.config ≡ finite_config s.config)
    × (finite_quaternion n.quaternion ≡ finite_quaternion s.quaternion)

kept : (s : Ahrs) (over : Axes) (b : Bool) → Kept s (cond b (soft_restarted_of s over) s)
kept s over true = (refl, refl, refl)
kept s over false = (refl, refl, refl)

module _ (s : Ahrs) (g a m : Vector) where
  pub updated_shows : finite_dropped s ≡ true → finite_state (updated_of s g a m) ≡ true → given s g a m ≡ true
  unfolding updated_of overrange_of half_feedback_of
  updated_shows d h =
      let now = overrange_of s g in
      let startup = startup_of s g in
      let feedback = feedback_of s g a m in
      let rate = rate_of g feedback.half_feedback startup.gain in
      let p = parts (updated_of s g a m) h in
      let (settings, config, quaternion) = kept s (over_of s.config g) (any_of (over_of s.config g)) in
      let (q, moved) = integrated_shows now.quaternion (displacement_of s g a m) p.quaternion in
      let measured = rate_shows g feedback.half_feedback startup.gain (mul_shows rate now.config.sample_period moved).0 in
      let gravity = half_gravity_of now.settings.convention now.quaternion in
      let west = half_west_of now.settings.convention now.quaternion in
      let magnetometer = heading_shows now.magnetic gravity west m startup.startup now.config p.magnetic in
      let (residuals, gain) = both (finite_vector s.accelerometer && finite_rejection s.acceleration && finite_rejection s.magnetic) _ d in
      let (accelerometer, acceleration, magnetic) = all_three (finite_vector s.accelerometer) (finite_rejection s.acceleration) _ residuals in
      ap₂ ◌&&◌
      (whole s (record {
        settings = sym settings ∙ p.settings;
        config = sym config ∙ p.config;
        quaternion = sym quaternion ∙ q;
        accelerometer = accelerometer;
        gain = gain;
        acceleration = acceleration;
        magnetic = magnetic;
      }))
      (ap₂ ◌&&◌ (ap₂ ◌&&◌ measured p.accelerometer) magnetometer)

  -- what is given has what is dropped in it
  pub given_dropped : given s g a m ≡ true → finite_dropped s ≡ true
  given_dropped h =
      let p = parts s (both (finite_state s) (finite_vector g && finite_vector a && finite_vector m) h).0 in
      ap₂ ◌&&◌ (ap₂ ◌&&◌ (ap₂ ◌&&◌ p.accelerometer p.acceleration) p.magnetic) p.gain
