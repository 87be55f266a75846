-- Wrong answers that the promises refuse, two at least for each public call, each by evaluation. Assumes nothing.
use Prim.Native.Nat.{ℕ, ◌+◌}
use native.Mathlib.Omega.{arith}
use mathlib.Core.Path.{◌≡◌, ap, refl}
use mathlib.Core.Bool.{Bool, true, false, cond}
use mathlib.Core.List.{List, [], ◌∷◌}
use lib.IntN.{pos, negsuc}
use lib.Signed.{mag}
use lib.Count.{count_leading_zeros}
use lib.Ieee.{Float, nan, fin, binary32, of_bits, to_bits, eq, ne, lt, le, add, sub, mul, div, neg, sum, round, units, odd}
use Rattle.number.proofs.Apart.{apart, bits, half, nought, one, two, unlike}
use Rattle.number.specs.Same.{fabsf_of}
use Rattle.root.specs.Root.{floor_root, nearest_root_of, significand_of, exponent_of, squared_of, root_bits_of, sqrt_of}
use Rattle.answer.specs.declared.Answer.{Answer}
use Rattle.answer.specs.declared.Answer.TheVariants.{Oriented, Refused}
use Rattle.answer.specs.declared.refusal.Refusal.{Refusal}
use Rattle.answer.specs.declared.refusal.Refusal.TheVariants.{Unknown, NotFinite, OutOfRange, Overflow, Norm}
use Rattle.answer.specs.Rows.{row_of}
use Rattle.std.specs.declared.result.Result.{Result}
use Rattle.std.specs.declared.result.Result.TheVariants.{Ok, Err}
use Rattle.ahrs.specs.declared.read.Flags.{Flags}
use Rattle.ahrs.specs.declared.read.InternalStates.{InternalStates}
use Rattle.ahrs.specs.declared.read.IgnoredCounts.{IgnoredCounts}
use Rattle.answer.specs.Refusals.{refusal_of}
use Rattle.vector.specs.declared.Vector.{Vector}
use Rattle.vector.specs.Vectors.{vector, finite_vector, dot_of}
use Rattle.math.specs.declared.quaternion.Quaternion.{Quaternion}
use Rattle.math.specs.Quaternions.{quaternion, finite_quaternion, norm_squared_of, norm_of, normalize_of}
use Rattle.settings.specs.declared.Settings.{Settings}
use Rattle.settings.specs.declared.limit.Limit.{Limit}
use Rattle.settings.specs.declared.limit.Limit.TheVariants.{Squared, Degrees}
use Rattle.settings.specs.declared.config.Config.{Config}
use Rattle.settings.specs.declared.axes.Axes.{Axes}
use Rattle.step.specs.declared.Rejection.{Rejection}
use Rattle.ahrs.specs.declared.Ahrs.{Ahrs}
use Rattle.settings.specs.Config.{finite_settings, finite_config, limit_of, derived_of}
use Rattle.settings.specs.Axes.{axes, none, over_of}
use Rattle.step.specs.Sensor.{reset_of, longer_of, skipped_of, half_inclination_feedback_of, half_heading_feedback_of, finite_rejection}
use Rattle.step.specs.Direction.{half_gravity_of, half_west_of}
use Rattle.step.specs.Rate.{startup_gain_of, rate_of, integrated_of}
use Rattle.ahrs.specs.Filter.{finite_state, fresh_of, restarted_of, skipped_startup, with_threshold, with_settings, with_sample_period, with_quaternion}
use Rattle.ahrs.specs.Filter.{overrange_of, half_feedback_of, updated_of}
use Rattle.ahrs.specs.Read.{gravity_of, linear_of, earth_frame_of, without_gravity, earth_of, flags_of, states_of}
use Rattle.ahrs.specs.Calls.{Starts, Updates, Restarts, SkipsStartup, SetsSettings, SetsSamplePeriod, settable, SetsQuaternion}
use Rattle.ahrs.specs.Calls.{SettingsReads, QuaternionReads, VectorReads, FlagsReads, StatesReads, IgnoredReads}

abbrev still : Vector
still = vector nought nought nought

-- a rate, a convention and a limit of acceleration, the rest ones
abbrev limited : Float → ℕ → Limit → Settings
limited r n limit =
    record {
      sample_rate = r;
      convention = n;
      gain = one;
      gyroscope_range = one;
      acceleration_rejection = limit;
      magnetic_rejection = Squared one;
      rejection_timeout = one;
    }

abbrev at_rate : Float → ℕ → Settings
at_rate r n = limited r n (Squared one)

-- T = 3 and a period of one, with overrange on above one or off
abbrev three : Bool → Config
three on =
    record {
      sample_period = one;
      gain = one;
      startup_gain_rate = one;
      overrange_enabled = on;
      overrange_threshold = one;
      acceleration_rejection = one;
      magnetic_rejection = one;
      rejection_timeout = pos 3;
    }

-- 2 of 3 readings over the limit, and so often ignored in a row
abbrev waiting : ℕ → Rejection
waiting count =
    record { half_residual = still; recovery_trigger = pos 2; recovery_threshold = pos 3; ignored = true; ignored_count = count }

-- a state in startup, by its convention, its orientation, whether overrange is on and what went over
abbrev state : ℕ → Quaternion → Bool → Axes → Ahrs
state n q on over =
    record {
      settings = at_rate one n;
      config = three on;
      quaternion = q;
      accelerometer = still;
      startup = true;
      startup_gain = one;
      overrange_recovery = over;
      acceleration = waiting 2;
      magnetic = waiting 5;
    }

abbrev oriented : ℕ → Quaternion → Ahrs
oriented n q = state n q false none

abbrev at_start : ℕ → Ahrs
at_start n = oriented n (quaternion one nought nought nought)

abbrev trigger : Ahrs → ℕ
trigger s = mag s.acceleration.recovery_trigger

abbrev started_up : Ahrs → ℕ
started_up s = cond s.startup 1 0

-- a rate of -0.0 started, and an angle of 128 degrees; a convention of 3 refused for the NaN beside it
pub of_start
    : (Starts (at_rate (fin true 0 (pos 0)) 0) (Ok (at_start 0)) → ⊥)
    × (Starts (limited one 0 (Degrees (fin false 1 (pos 7)))) (Ok (at_start 0)) → ⊥)
    × (Starts (at_rate nan 3) (Err NotFinite) → ⊥)
unfolding refusal_of finite_settings lt le eq of_bits
of_start = (λ h. unlike 0 6 refl h.number, λ h. unlike 0 6 refl h.number, λ h. unlike 5 4 refl h.number)

-- of `update`, and of `update_lent`, whose promise is the same: a convention of 3 taken; refused, and its next state kept; a NaN found only in the answer
pub of_update
    : (Updates (at_start 3) still still still (record { state = at_start 3; answer = Oriented one nought nought nought }) → ⊥)
    × (Updates (at_start 3) still still still (record { state = updated_of (at_start 3) still still still; answer = Refused Unknown }) → ⊥)
    × (Updates (at_start 0) still still (vector nan nought nought) (record { state = at_start 0; answer = Refused Overflow }) → ⊥)
unfolding refusal_of finite_state finite_settings finite_config finite_quaternion finite_vector finite_rejection
    updated_of overrange_of over_of startup_gain_of lt add sub neg sum round units odd
of_update = (λ h. unlike 0 4 refl h.answer.number, λ h. unlike 0 1 refl (ap started_up h.state), λ h. unlike 7 5 refl h.answer.number)

-- half a turn about x
abbrev over : Ahrs
over = oriented 0 (quaternion nought one nought nought)

-- the same of an update that is accepted: refused; answered with the identity, by one that always does, begins anew or answers again what it did at the start;
-- answered, and the state untouched
pub of_accepted_update
    : (Updates over still still still (record { state = over; answer = Refused NotFinite }) → ⊥)
    × (Updates over still still still (record { state = over; answer = Oriented one nought nought nought }) → ⊥)
    × (Updates over still still still (record { state = over; answer = Oriented nought one nought nought }) → ⊥)
unfolding refusal_of finite_state finite_settings finite_config finite_quaternion finite_vector finite_rejection
    updated_of overrange_of over_of startup_gain_of half_feedback_of half_gravity_of half_west_of half_inclination_feedback_of
    half_heading_feedback_of skipped_of
    rate_of integrated_of normalize_of norm_of norm_squared_of sqrt_of root_bits_of squared_of exponent_of significand_of nearest_root_of
    floor_root count_leading_zeros
    eq lt add sub mul div neg sum round units odd of_bits to_bits
of_accepted_update = (
  λ h. unlike 5 0 refl h.answer.number,
  λ h. let e = h.answer.values in let z : ◌≡◌ {A = ℕ} 0 1 = cc in omega arith,
  λ h. unlike 1 0 refl (ap started_up h.state),
)

-- x went over before
abbrev knocked : Ahrs
knocked = state 0 (quaternion one nought nought nought) true (axes true false false)

-- a state's set of axes as a number: 1 for x, 2 for y, 4 for z, added up
abbrev axes_in : Ahrs → ℕ
axes_in s = let over = s.overrange_recovery in cond over.x 1 0 + cond over.y 2 0 + cond over.z 4 0

-- what it has beyond the Rust's: the axes, the accelerometer's count and the magnetometer's
abbrev shown : Ahrs → List ℕ
shown s = axes_in s ∷ s.acceleration.ignored_count ∷ s.magnetic.ignored_count ∷ []

-- z goes over now, and both sensors are skipped: whatever is answered, any set but z alone, be it joined with x, x kept or none; any counts but 1 each, be
-- they cleared after it or not at all
pub of_knock
    : (n : Ahrs) (r : Answer) → (shown n ≡ 4 ∷ 1 ∷ 1 ∷ [] → ⊥) → Updates knocked (vector nought nought two) still still (record { state = n; answer = r }) → ⊥
unfolding refusal_of finite_state finite_settings finite_config finite_quaternion finite_vector finite_rejection
    updated_of overrange_of over_of startup_gain_of half_feedback_of half_gravity_of half_west_of half_inclination_feedback_of
    half_heading_feedback_of reset_of skipped_of
    longer_of rate_of integrated_of normalize_of norm_of norm_squared_of sqrt_of root_bits_of squared_of exponent_of significand_of
    nearest_root_of floor_root count_leading_zeros
    fabsf_of eq lt add sub mul div neg sum round units odd of_bits to_bits
of_knock n r other h = other (ap shown h.state)

-- any set or counts left by a restart; any set left by startup skipped, or other counts than before; any other of both by settings, a period or a quaternion
pub of_knocked
    : ((n : Ahrs) → (shown n ≡ 0 ∷ 0 ∷ 0 ∷ [] → ⊥) → Restarts knocked (record { state = n; result = Ok tt }) → ⊥)
    × ((n : Ahrs) → (shown n ≡ 0 ∷ 2 ∷ 5 ∷ [] → ⊥) → SkipsStartup knocked (record { state = n; result = Ok tt }) → ⊥)
    × ((n : Ahrs) → (shown n ≡ 1 ∷ 2 ∷ 5 ∷ [] → ⊥) → SetsSettings knocked (at_rate one 0) (record { state = n; result = Ok tt }) → ⊥)
    × ((n : Ahrs) → (shown n ≡ 1 ∷ 2 ∷ 5 ∷ [] → ⊥) → SetsSamplePeriod knocked two (record { state = n; result = Ok tt }) → ⊥)
    × ((n : Ahrs) → (shown n ≡ 1 ∷ 2 ∷ 5 ∷ [] → ⊥) → SetsQuaternion knocked (quaternion nought one nought nought) (record { state = n; result = Ok tt }) → ⊥)
unfolding refusal_of finite_state finite_settings finite_config finite_quaternion finite_vector finite_rejection fresh_of reset_of skipped_startup
    derived_of limit_of with_settings with_threshold with_sample_period with_quaternion settable norm_squared_of
    eq ne lt le add sub mul div neg sum round units odd of_bits
of_knocked = (
  λ n other h. other (ap shown h.holds),
  λ n other h. other (ap shown h.holds),
  λ n other h. other (ap shown h.holds),
  λ n other h. other (ap shown h.holds),
  λ n other h. other (ap shown h.holds),
)

-- both sensors skipped: any counts but one more each, be they left or swapped; and any but those before where the update is refused
pub of_ignored
    : ((n : Ahrs) (r : Answer) → (shown n ≡ 0 ∷ 3 ∷ 6 ∷ [] → ⊥) → Updates over still still still (record { state = n; answer = r }) → ⊥)
    × ((n : Ahrs) (r : Answer) → (shown n ≡ 0 ∷ 2 ∷ 5 ∷ [] → ⊥) → Updates (at_start 3) still still still (record { state = n; answer = r }) → ⊥)
unfolding refusal_of finite_state finite_settings finite_config finite_quaternion finite_vector finite_rejection
    updated_of overrange_of over_of startup_gain_of half_feedback_of half_gravity_of half_west_of half_inclination_feedback_of
    half_heading_feedback_of reset_of skipped_of
    longer_of rate_of integrated_of normalize_of norm_of norm_squared_of sqrt_of root_bits_of squared_of exponent_of significand_of
    nearest_root_of floor_root count_leading_zeros
    fabsf_of eq lt add sub mul div neg sum round units odd of_bits to_bits
of_ignored = (λ n r other h. other (ap shown h.state), λ n r other h. other (ap shown h.state))

-- a restart that keeps the triggers; one of a state that is refused
pub of_restart
    : (Restarts (at_start 0) (record { state = at_start 0; result = Ok tt }) → ⊥)
    × (Restarts (at_start 3) (record { state = restarted_of (at_start 3); result = Ok tt }) → ⊥)
unfolding refusal_of finite_state finite_settings finite_config finite_quaternion finite_vector finite_rejection fresh_of reset_of
of_restart = (λ h. unlike 2 0 refl (ap trigger h.holds), λ h. unlike 0 4 refl h.number)

-- startup not skipped; a state without fault refused
pub of_skip_startup
    : (SkipsStartup (at_start 0) (record { state = at_start 0; result = Ok tt }) → ⊥)
    × (SkipsStartup (at_start 0) (record { state = at_start 0; result = Err NotFinite }) → ⊥)
unfolding refusal_of finite_state finite_settings finite_config finite_quaternion finite_vector finite_rejection skipped_startup
of_skip_startup = (λ h. unlike 1 0 refl (ap started_up h.holds), λ h. unlike 5 0 refl h.number)

-- a rate of zero set; a convention of 3 refused for the rate beside it; a trigger reset by settings that are accepted
pub of_set_settings
    : (SetsSettings (at_start 0) (at_rate nought 0) (record { state = at_start 0; result = Ok tt }) → ⊥)
    × (SetsSettings (at_start 0) (at_rate nought 3) (record { state = at_start 0; result = Err OutOfRange }) → ⊥)
    × ((n : Ahrs) → trigger n ≡ 0 → SetsSettings (at_start 0) (at_rate one 0) (record { state = n; result = Ok tt }) → ⊥)
unfolding refusal_of finite_state finite_settings finite_config finite_quaternion finite_vector finite_rejection
    derived_of limit_of with_settings with_threshold eq ne lt add sub mul div neg sum round units odd of_bits
of_set_settings =
    (λ h. unlike 0 6 refl h.number, λ h. unlike 6 4 refl h.number, λ n e h. let z : trigger n ≡ 2 = ap trigger h.holds in omega arith)

-- a period of -0.0 set; a period that is accepted and not set
pub of_set_sample_period
    : (SetsSamplePeriod (at_start 0) (fin true 0 (pos 0)) (record { state = at_start 0; result = Ok tt }) → ⊥)
    × (SetsSamplePeriod (at_start 0) (fin false 1 (pos 1)) (record { state = at_start 0; result = Ok tt }) → ⊥)
unfolding refusal_of finite_state finite_settings finite_config finite_quaternion finite_vector finite_rejection with_sample_period lt of_bits
of_set_sample_period = (
  λ h. unlike 0 6 refl h.number,
  λ h. let e = ap (λ (s : Ahrs). s.config.sample_period) h.holds in let z : ◌≡◌ {A = ℕ} 0 1 = cc in omega arith,
)

-- a quaternion set, by what the call gives, with the state left as it was
abbrev Set : Quaternion → Result (Unit {0}) Refusal → Type 0
Set q r = SetsQuaternion (at_start 0) q (record { state = at_start 0; result = r })

abbrev in_w : Ahrs → ℕ
in_w s = bits s.quaternion.w

-- a NaN set, or asked for 9 before 5; a quaternion that is accepted and not set; one of zero set, or of a convention of 3 asked for 9 before 4
pub of_set_quaternion
    : (Set (quaternion nan nought nought nought) (Ok tt) → ⊥)
    × (Set (quaternion nan nought nought nought) (Err Norm) → ⊥)
    × (Set (quaternion nought one nought nought) (Ok tt) → ⊥)
    × (Set (quaternion nought nought nought nought) (Ok tt) → ⊥)
    × (SetsQuaternion (at_start 3) (quaternion nought nought nought nought) (record { state = at_start 3; result = Err Norm }) → ⊥)
unfolding refusal_of finite_state finite_settings finite_config finite_quaternion finite_vector finite_rejection with_quaternion
    settable norm_squared_of eq lt le add mul sum round units odd of_bits to_bits
of_set_quaternion = (
  λ h. unlike 0 5 refl h.number,
  λ h. unlike 9 5 refl h.number,
  λ h. apart in_w h.holds refl,
  λ h. unlike 0 9 refl h.number,
  λ h. unlike 9 4 refl h.number,
)

-- 3 / 2 ^ 12
abbrev three_parts : Float
three_parts = fin false 3 (negsuc 11)

-- 1 / 2 ^ 11
abbrev tiny : Float
tiny = fin false 1 (negsuc 10)

-- each end of the squared norm left out, 0.25 and 4; a step below the one and a step above the other let in
pub of_ends
    : (Set (quaternion half nought nought nought) (Err Norm) → ⊥)
    × (Set (quaternion nought nought two nought) (Err Norm) → ⊥)
    × (Set (quaternion (of_bits binary32 0x3eff_ffff) (of_bits binary32 0x3900_0000) nought nought) (Ok tt) → ⊥)
    × (Set (quaternion two three_parts nought nought) (Ok tt) → ⊥)
unfolding refusal_of finite_state finite_settings finite_config finite_quaternion finite_vector finite_rejection
    settable norm_squared_of eq lt le add mul sum round units odd of_bits
of_ends = (
  λ h. unlike 9 0 refl h.number,
  λ h. unlike 9 0 refl h.number,
  λ h. unlike 0 9 refl h.number,
  λ h. unlike 0 9 refl h.number,
)

-- the norm tested and not its square, at 3/8 and at 3; the squares summed from the last to the first, which gives a step more than 4
pub of_norm
    : (Set (quaternion (fin false 3 (negsuc 2)) nought nought nought) (Ok tt) → ⊥)
    × (Set (quaternion nought nought nought (fin false 3 (pos 0))) (Ok tt) → ⊥)
    × (Set (quaternion two tiny tiny tiny) (Err Norm) → ⊥)
unfolding refusal_of finite_state finite_settings finite_config finite_quaternion finite_vector finite_rejection
    settable norm_squared_of eq lt le add mul sum round units odd of_bits
of_norm = (λ h. unlike 0 9 refl h.number, λ h. unlike 0 9 refl h.number, λ h. unlike 9 0 refl h.number)

-- ---- reads

abbrev convention_of : Result Settings Refusal → ℕ
convention_of (Ok t) = t.convention
convention_of (Err e) = row_of e

-- 1 where the limit of acceleration is an angle
abbrev angles : Limit → ℕ
angles (Squared x) = 0
angles (Degrees x) = 1

abbrev angles_of : Result Settings Refusal → ℕ
angles_of (Ok t) = angles t.acceleration_rejection
angles_of (Err e) = row_of e

-- the settings of a state that is refused; another convention; a squared limit read as an angle
pub of_settings
    : (SettingsReads (at_start 3) (Ok (at_rate one 3)) → ⊥)
    × (SettingsReads (at_start 0) (Ok (at_rate one 1)) → ⊥)
    × (SettingsReads (at_start 0) (Ok (limited one 0 (Degrees one))) → ⊥)
unfolding refusal_of finite_state finite_settings finite_config finite_quaternion finite_vector finite_rejection
of_settings =
    (λ h. unlike 0 4 refl h.number, λ h. unlike 1 0 refl (ap convention_of h.exact), λ h. unlike 1 0 refl (ap angles_of h.exact))

-- the orientation of a state that is refused; another one
pub of_quaternion
    : (QuaternionReads (at_start 3) (Ok (quaternion one nought nought nought)) → ⊥)
    × (QuaternionReads (at_start 0) (Ok (quaternion nought one nought nought)) → ⊥)
unfolding refusal_of finite_state finite_settings finite_config finite_quaternion finite_vector finite_rejection
of_quaternion = (λ h. unlike 0 4 refl h.number, λ h. let e = h.values in let z : ◌≡◌ {A = ℕ} 0 1 = cc in omega arith)

abbrev along_z : Bool → Vector
along_z s = vector nought nought (fin s 1 (pos 0))

-- gravity with NED's sign in NWU; of a state that is refused
pub of_gravity
    : (VectorReads (at_start 0) (gravity_of (at_start 0)) (Ok (along_z true)) → ⊥)
    × (VectorReads (at_start 3) (gravity_of (at_start 3)) (Ok (along_z false)) → ⊥)
unfolding refusal_of finite_state finite_settings finite_config finite_quaternion finite_vector finite_rejection
    gravity_of half_gravity_of add sub mul neg sum round units odd of_bits
of_gravity = (λ h. let e = h.values in let z : ◌≡◌ {A = ℕ} 0 1 = cc in omega arith, λ h. unlike 0 4 refl h.number)

-- gravity not taken out; of a state that is refused
pub of_linear
    : (VectorReads (at_start 0) (linear_of (at_start 0)) (Ok still) → ⊥)
    × (VectorReads (at_start 3) (linear_of (at_start 3)) (Ok still) → ⊥)
unfolding refusal_of finite_state finite_settings finite_config finite_quaternion finite_vector finite_rejection
    linear_of gravity_of half_gravity_of add sub mul neg sum round units odd of_bits
of_linear = (λ h. let e = h.values in let z : ◌≡◌ {A = ℕ} 0 1 = cc in omega arith, λ h. unlike 0 4 refl h.number)

-- gravity added in NWU, as in NED; of a state that is refused
pub of_earth
    : (VectorReads (at_start 0) (earth_of (at_start 0)) (Ok (along_z false)) → ⊥)
    × (VectorReads (at_start 3) (earth_of (at_start 3)) (Ok (along_z true)) → ⊥)
unfolding refusal_of finite_state finite_settings finite_config finite_quaternion finite_vector finite_rejection
    earth_of without_gravity earth_frame_of dot_of add sub mul neg sum round units odd of_bits
of_earth = (λ h. let e = h.values in let z : ◌≡◌ {A = ℕ} 0 1 = cc in omega arith, λ h. unlike 0 4 refl h.number)

abbrev in_startup : Result Flags Refusal → ℕ
in_startup (Ok f) = cond f.startup 1 0
in_startup (Err e) = row_of e

abbrev has_x : Result Flags Refusal → ℕ
has_x (Ok f) = cond f.overrange_recovery.x 1 0
has_x (Err e) = row_of e

abbrev flagged : Bool → Axes → Result Flags Refusal
flagged b over =
    Ok (record { startup = b; overrange_recovery = over; acceleration_recovery = false; magnetic_recovery = false })

-- a startup that is hidden; the flags of a state that is refused; an axis that is hidden, or another shown in its place
pub of_flags
    : (FlagsReads (at_start 0) (flagged false none) → ⊥)
    × (FlagsReads (at_start 3) (flagged true none) → ⊥)
    × (FlagsReads knocked (flagged true none) → ⊥)
    × (FlagsReads knocked (flagged true (axes false false true)) → ⊥)
unfolding refusal_of finite_state finite_settings finite_config finite_quaternion finite_vector finite_rejection flags_of
of_flags = (
  λ h. unlike 0 1 refl (ap in_startup h.exact),
  λ h. unlike 0 4 refl h.number,
  λ h. unlike 0 1 refl (ap has_x h.exact),
  λ h. unlike 0 1 refl (ap has_x h.exact),
)

abbrev is_ignored : Result InternalStates Refusal → ℕ
is_ignored (Ok i) = cond i.accelerometer_ignored 1 0
is_ignored (Err e) = row_of e

abbrev stated : Bool → Result InternalStates Refusal
stated b =
    Ok
    (record {
      accelerometer_ignored = b;
      acceleration_recovery_trigger = nought;
      magnetometer_ignored = true;
      magnetic_recovery_trigger = nought;
    })

-- an ignored accelerometer that is hidden; the states of a state that is refused; 7, for which there is no cause
pub of_states
    : (StatesReads (at_start 0) (stated false) → ⊥)
    × (StatesReads (at_start 3) (stated true) → ⊥)
    × (StatesReads (at_start 0) (Err Overflow) → ⊥)
unfolding refusal_of finite_state finite_settings finite_config finite_quaternion finite_vector finite_rejection states_of
of_states =
    (λ h. unlike 0 1 refl (ap is_ignored h.answer.exact), λ h. unlike 0 4 refl h.answer.number, λ h. unlike 7 0 refl h.answer.number)

abbrev counted : ℕ → ℕ → Result IgnoredCounts Refusal
counted a m = Ok (record { accelerometer = a; magnetometer = m })

abbrev first_count : Result IgnoredCounts Refusal → ℕ
first_count (Ok i) = i.accelerometer
first_count (Err e) = row_of e

-- the two counts swapped; those of a state that is refused
pub of_ignored_counts : (IgnoredReads (at_start 0) (counted 5 2) → ⊥) × (IgnoredReads (at_start 3) (counted 2 5) → ⊥)
unfolding refusal_of finite_state finite_settings finite_config finite_quaternion finite_vector finite_rejection
of_ignored_counts = (λ h. unlike 5 2 refl (ap first_count h.exact), λ h. unlike 0 4 refl h.number)
