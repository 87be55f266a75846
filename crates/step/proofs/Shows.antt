-- What an update works out is finite only where what was measured, and the orientation before it, are. Assumes nothing.
use mathlib.Core.Path.{◌≡◌, refl}
use mathlib.Core.Bool.{Bool, true, false, cond}
use lib.Ieee.{Float, lt}
use Rattle.number.specs.Float32 as float
use Rattle.number.specs.Float32.{◌⊗◌}
use Rattle.vector.specs.declared.Vector.{Vector}
use Rattle.vector.specs.Vectors.{finite_vector, is_zero_of, dot_of, cross_of, normalize_of, mul_of}
use Rattle.vector.proofs.Shows.{add_shows, mul_shows, cross_shows, normalize_shows, zero_shows}
use Rattle.math.specs.declared.quaternion.Quaternion.{Quaternion}
use Rattle.math.specs.Quaternions as quaternion
use Rattle.math.specs.Quaternions.{finite_quaternion, vector_product_of}
use Rattle.math.proofs.Shows as quaternions
use Rattle.settings.specs.declared.config.Config.{Config}
use Rattle.step.specs.declared.Rejection.{Rejection}
use Rattle.step.specs.declared.sensor.Feedback.{Feedback}
use Rattle.step.specs.Sensor.{residual_of, skipped_of, rejected_of, half_heading_feedback_of, finite_rejection}
use Rattle.step.specs.Direction.{half}
use Rattle.step.specs.Rate.{deg_to_rad, rate_of, integrated_of}

pub rate_shows : (g f : Vector) (gain : Float) → finite_vector (rate_of g f gain) ≡ true → finite_vector g ≡ true
unfolding rate_of
rate_shows g f gain h = (mul_shows g (deg_to_rad ⊗ half) (add_shows (mul_of g (deg_to_rad ⊗ half)) (mul_of f gain) h).0).0

pub integrated_shows
    : (q : Quaternion) (d : Vector) → finite_quaternion (integrated_of q d) ≡ true → (finite_quaternion q ≡ true) × (finite_vector d ≡ true)
unfolding integrated_of
integrated_shows q d h =
    let turned = vector_product_of q d in
    let (p, r) = quaternions.add_shows q turned (quaternions.normalize_shows (quaternion.add_of q turned) h) in
    (p, quaternions.product_shows q d r)

residual_shows : (s r : Vector) → finite_vector (residual_of s r) ≡ true → finite_vector s ≡ true
unfolding residual_of
residual_shows s r h = go (lt float.zero (dot_of s r)) h
  where
    go : (b : Bool) → finite_vector (cond b (cross_of s r) (normalize_of (cross_of s r))) ≡ true → finite_vector s ≡ true
    go true k = (cross_shows s r k).0
    go false k = (cross_shows s r (normalize_shows (cross_of s r) k)).0

pub heading_shows
    : (r : Rejection) (gravity west m : Vector) (startup : Bool) (c : Config)
    → finite_rejection (half_heading_feedback_of r gravity west m startup c).rejection ≡ true → finite_vector m ≡ true
unfolding half_heading_feedback_of rejected_of finite_rejection
heading_shows r gravity west m startup c h = go (is_zero_of m) refl h
  where
    sensor : Vector
    sensor = normalize_of (cross_of gravity m)

    kept : Feedback
    kept = rejected_of r (residual_of sensor west) startup c.magnetic_rejection c.rejection_timeout

    go : (b : Bool) → is_zero_of m ≡ b → finite_rejection (cond b (skipped_of r) kept).rejection ≡ true → finite_vector m ≡ true
    go true e k = zero_shows m e
    go false e k = (cross_shows gravity m (normalize_shows (cross_of gravity m) (residual_shows sensor west k))).1
