-- What an accepted start, settings change, update, quaternion or heading says: settings that derive a finite configuration and a T not below 0, a finite
-- next state, a finite quaternion of a length that may be set, or a finite one that is turned.
-- Assumes nothing.
use mathlib.Core.Path.{◌≡◌, sym, ap, ◌∙◌}
use mathlib.Core.Bool.{Bool, true, false, not, ◌&&◌}
use mathlib.Core.List.{[]}
use lib.IntN.{pos}
use lib.Ieee.{Float, lt}
use lib.Ieee.Scale.{finite}
use Rattle.number.specs.Float32 as float
use Rattle.answer.specs.Refusals.{refusal_of}
use Rattle.answer.proofs.Answering.{passed, unfailed}
use Rattle.answer.proofs.Tests.{both, untrue, still}
use Rattle.trig.specs.Degrees.{in_turn}
use Rattle.vector.specs.declared.Vector.{Vector}
use Rattle.vector.specs.Vectors.{zero_vector, finite_vector}
use Rattle.math.specs.declared.quaternion.Quaternion.{Quaternion}
use Rattle.math.specs.Quaternions.{finite_quaternion}
use Rattle.rejection.specs.Inside.{NotBelow}
use Rattle.settings.specs.declared.Settings.{Settings}
use Rattle.settings.specs.Limit.{finite_limit, sound_limit}
use Rattle.settings.specs.Config.{known_convention, finite_settings, sound_settings, derived_of, finite_config, settings_checks}
use Rattle.ahrs.specs.declared.Ahrs.{Ahrs}
use Rattle.ahrs.specs.Filter.{finite_state, updated_of}
use Rattle.ahrs.specs.Calls.{update_checks, change_checks, period_checks, settable, quaternion_checks}
use Rattle.heading.specs.Turn.{finite_point, yaw_of, roll_of, headed_of}
use Rattle.heading.specs.Calls.{headable, set_checks, external_of, external_checks, unaided_of, unaided_checks}
use Rattle.reached.proofs.Timeouts.{product_cut}

timeout_cut : (t : Settings) → finite_settings t ≡ true → sound_settings t ≡ true → NotBelow (pos 0) (derived_of t).rejection_timeout
unfolding finite_settings derived_of
timeout_cut t f s =
    let (f5, timeout) = both _ (finite t.rejection_timeout) f in
    let (f4, _) = both _ (finite_limit t.magnetic_rejection) f5 in
    let (f3, _) = both _ (finite_limit t.acceleration_rejection) f4 in
    let (f2, _) = both _ (finite t.gyroscope_range) f3 in
    let (rate, _) = both (finite t.sample_rate) _ f2 in
    let (limits, least) = both _ (not (lt t.rejection_timeout float.zero)) s in
    let (first, _) = both _ (sound_limit t.magnetic_rejection) limits in
    let (above, _) = both (lt float.zero t.sample_rate) _ first in
    product_cut t.sample_rate t.rejection_timeout rate timeout above (untrue (lt t.rejection_timeout float.zero) least)

-- settings whose start is accepted
pub record Accepted (t : Settings) : Type 0 where
  pub known : known_convention t ≡ true
  pub finite : finite_settings t ≡ true
  pub sound : sound_settings t ≡ true
  pub config : finite_config (derived_of t) ≡ true
  pub timeout : NotBelow (pos 0) (derived_of t).rejection_timeout

pub start_accepted : (t : Settings) → refusal_of (settings_checks t) ≡ 0 → Accepted t
start_accepted t e =
    let k = passed 3 (known_convention t) _ e in
    let f = passed 4 (finite_settings t) _ k.1 in
    let p = passed 5 (sound_settings t) _ f.1 in
    record {
      known = k.0;
      finite = f.0;
      sound = p.0;
      config = (passed 6 (finite_config (derived_of t)) [] p.1).0;
      timeout = timeout_cut t f.0 p.0;
    }

pub change_accepted : (s : Ahrs) (t : Settings) → refusal_of (change_checks s t) ≡ 0 → Accepted t
change_accepted s t e =
    let k = passed 3 (known_convention s.settings && known_convention t) _ e in
    let f = passed 4 (finite_state s && finite_settings t) _ k.1 in
    let p = passed 5 (sound_settings t) _ f.1 in
    let g = (both (finite_state s) (finite_settings t) f.0).1 in
    record {
      known = (both (known_convention s.settings) (known_convention t) k.0).1;
      finite = g;
      sound = p.0;
      config = (passed 6 (finite_config (derived_of t)) [] p.1).0;
      timeout = timeout_cut t g p.0;
    }

pub period_accepted : (s : Ahrs) (p : Float) → refusal_of (period_checks s p) ≡ 0 → finite p ≡ true
period_accepted s p e =
    let k = passed 3 (known_convention s.settings) _ e in
    let f = passed 4 (finite_state s && finite p) _ k.1 in
    (both (finite_state s) (finite p) f.0).1

pub update_accepted : (s : Ahrs) (g a m : Vector) → refusal_of (update_checks s g a m) ≡ 0 → finite_state (updated_of s g a m) ≡ true
update_accepted s g a m e =
    let k = passed 3 (known_convention s.settings) _ e in
    let f = passed 4 (finite_state s && (finite_vector g && finite_vector a && finite_vector m)) _ k.1 in
    (passed 6 (finite_state (updated_of s g a m)) [] f.1).0

pub quaternion_accepted : (s : Ahrs) (q : Quaternion) → refusal_of (quaternion_checks s q) ≡ 0 → (finite_quaternion q ≡ true) × (settable q ≡ true)
quaternion_accepted s q e =
    let k = passed 3 (known_convention s.settings) _ e in
    let f = passed 4 (finite_state s && finite_quaternion q) _ k.1 in
    ((both (finite_state s) (finite_quaternion q) f.0).1, (passed 8 (settable q) [] f.1).0)

-- ---- headings

pub heading_accepted : (s : Ahrs) (h : Float) → refusal_of (set_checks s h) ≡ 0 → finite_quaternion (headed_of s.quaternion h) ≡ true
unfolding headable
heading_accepted s h e =
    let k = passed 3 (known_convention s.settings) _ e in
    let f = passed 4 (finite_state s) _ k.1 in
    let n = passed 4 (finite h) _ f.1 in
    let t = passed 5 (in_turn h) _ n.1 in
    (both (finite_point (yaw_of s.quaternion)) _ (passed 6 (headable s.quaternion h) [] t.1).0).1

pub external_accepted : (s : Ahrs) (g a : Vector) (h : Float) → refusal_of (external_checks s g a h) ≡ 0 → finite_state (external_of s g a h) ≡ true
external_accepted s g a h e =
    let k = passed 3 (known_convention s.settings) _ e in
    let f = passed 4 (finite_state s) _ k.1 in
    let n = passed 4 (finite_vector g && finite_vector a && finite h) _ f.1 in
    let t = passed 5 (in_turn h) _ n.1 in
    let p = passed 6 (finite_point (roll_of s.quaternion)) _ t.1 in
    (passed 6 (finite_state (external_of s g a h)) [] p.1).0

module _ (s : Ahrs) (g a : Vector) (e : refusal_of (unaided_checks s g a) ≡ 0) where
  rest : (finite_state (unaided_of s g a) ≡ true) × (((unaided_of s g a).startup && not (headable (unaided_of s g a).quaternion float.zero)) ≡ false)
  rest =
      let k = passed 3 (known_convention s.settings) _ e in
      let f = passed 4 (finite_state s && (finite_vector g && finite_vector a && finite_vector zero_vector)) _ k.1 in
      let n = passed 6 (finite_state (unaided_of s g a)) _ f.1 in
      (n.0, (unfailed 6 ((unaided_of s g a).startup && not (headable (unaided_of s g a).quaternion float.zero)) [] n.1).0)

  -- both halves
  pub unaided_accepted : finite_state (unaided_of s g a) ≡ true
  unaided_accepted = rest.0

  pub north_accepted : (unaided_of s g a).startup ≡ true → finite_quaternion (headed_of (unaided_of s g a).quaternion float.zero) ≡ true
  unfolding headable
  north_accepted t =
      let q = (unaided_of s g a).quaternion in
      let h = still (headable q float.zero) (ap (λ (b : Bool). b && not (headable q float.zero)) (sym t) ∙ rest.1) in
      (both (finite_point (yaw_of q)) _ h).1
