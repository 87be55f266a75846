-- What holds of a state and is kept by what each accepted call makes of it, every call keeps. Assumes nothing.
use mathlib.Core.Path.{◌≡◌, refl}
use mathlib.Core.Bool.{true}
use lib.Ieee.{Float}
use lib.Ieee.Scale.{finite}
use Rattle.number.specs.Float32.{zero}
use Rattle.answer.specs.Refusals.{refusal_of}
use Rattle.answer.specs.Runs.{step_of}
use Rattle.answer.proofs.Running.{settled}
use Rattle.vector.specs.declared.Vector.{Vector}
use Rattle.vector.specs.Vectors.{zero_vector}
use Rattle.math.specs.declared.quaternion.Quaternion.{Quaternion}
use Rattle.math.specs.Quaternions.{finite_quaternion}
use Rattle.settings.specs.declared.Settings.{Settings}
use Rattle.settings.specs.Config.{derived_of}
use Rattle.ahrs.specs.declared.Ahrs.{Ahrs}
use Rattle.ahrs.specs.Filter.{finite_state, restarted_of, skipped_startup, with_settings, with_sample_period, with_quaternion, updated_of}
use Rattle.ahrs.specs.Calls.{update_checks, state_checks, change_checks, period_checks, quaternion_checks}
use Rattle.heading.specs.Turn.{magnetometer_of, headed_of}
use Rattle.heading.specs.Calls.{with_heading, set_checks, external_of, external_checks, unaided_of, northed_of, unaided_checks}
use Rattle.reached.specs.Runs.{Call, update, restart, skip_startup, set_settings, set_sample_period, set_quaternion, outline_of}
use Rattle.reached.specs.Runs.{set_heading, update_external_heading, update_no_magnetometer}
use Rattle.reached.proofs.Accepting.{Accepted, change_accepted, period_accepted, update_accepted, quaternion_accepted}
use Rattle.reached.proofs.Accepting.{heading_accepted, external_accepted, unaided_accepted, north_accepted}
use Rattle.reached.proofs.Headed.{northed}

-- what the call c makes of s where it is accepted; an update is of whatever kind, and a heading is set in one with no magnetometer too
pub record Keeps (Q : Ahrs → Type 0) (s : Ahrs) (c : Call) : Type 0 where
  pub updated : (g a m : Vector) → finite_state (updated_of s g a m) ≡ true → Q (updated_of s g a m)
  pub restarted : Q (restarted_of s)
  pub skipped : Q (skipped_startup s)
  pub settings : (t : Settings) → c ≡ set_settings t → Accepted t → Q (with_settings s t (derived_of t))
  pub period : (p : Float) → finite p ≡ true → Q (with_sample_period s p)
  pub quaternion : (q : Quaternion) → c ≡ set_quaternion q → finite_quaternion q ≡ true → Q (with_quaternion s q)
  pub headed : (n : Ahrs) → Q n → (h : Float) → finite_quaternion (headed_of n.quaternion h) ≡ true → Q (with_heading n h)

pub after_call : (Q : Ahrs → Type 0) (s : Ahrs) → Q s → (c : Call) → Keeps Q s c → Q (step_of outline_of s c).state
after_call Q s h (update g a m) k =
    settled Q (refusal_of (update_checks s g a m)) (updated_of s g a m) s h (λ e. k.updated g a m (update_accepted s g a m e))
after_call Q s h restart k = settled Q (refusal_of (state_checks s)) (restarted_of s) s h (λ e. k.restarted)
after_call Q s h skip_startup k = settled Q (refusal_of (state_checks s)) (skipped_startup s) s h (λ e. k.skipped)
after_call Q s h (set_settings t) k =
    settled Q (refusal_of (change_checks s t)) (with_settings s t (derived_of t)) s h (λ e. k.settings t refl (change_accepted s t e))
after_call Q s h (set_sample_period p) k =
    settled Q (refusal_of (period_checks s p)) (with_sample_period s p) s h (λ e. k.period p (period_accepted s p e))
after_call Q s h (set_quaternion q) k =
    settled Q (refusal_of (quaternion_checks s q)) (with_quaternion s q) s h (λ e. k.quaternion q refl (quaternion_accepted s q e).0)
after_call Q s h (set_heading x) k =
    settled Q (refusal_of (set_checks s x)) (with_heading s x) s h (λ e. k.headed s h x (heading_accepted s x e))
after_call Q s h (update_external_heading g a x) k =
    settled Q (refusal_of (external_checks s g a x)) (external_of s g a x) s h
    (λ e. k.updated g a (magnetometer_of s.quaternion x) (external_accepted s g a x e))
after_call Q s h (update_no_magnetometer g a) k =
    settled Q (refusal_of (unaided_checks s g a)) (northed_of (unaided_of s g a)) s h
    (λ e.
    let first = k.updated g a zero_vector (unaided_accepted s g a e) in
    northed Q (unaided_of s g a) first (λ t. k.headed (unaided_of s g a) first zero (north_accepted s g a e t)))
