-- 02 P2: which axes went over, in the states that a run reaches. The latest set takes the place of an earlier one, until startup ends or is skipped, or a
-- restart.
use Rattle.std.specs.Prelude.{◌≡◌, true, false, cond, List}
use Rattle.std.proofs.Math.Option.{some}
use Rattle.answer.specs.Refusals.{refusal_of, accepted}
use Rattle.answer.specs.Runs.{step_of, run_of, Throughout}
use Rattle.vector.specs.declared.Vector.{Vector}
use Rattle.vector.specs.Vectors.{zero_vector}
use Rattle.settings.specs.declared.Settings.{Settings}
use Rattle.settings.specs.declared.axes.Axes.{Axes}
use Rattle.settings.specs.Config.{derived_of}
use Rattle.settings.specs.Axes.{none, any_of, over_of}
use Rattle.ahrs.specs.declared.Ahrs.{Ahrs}
use Rattle.ahrs.specs.Filter.{fresh_of, updated_of}
use Rattle.ahrs.specs.Calls.{update_checks, state_checks}
use Rattle.heading.specs.Turn.{magnetometer_of}
use Rattle.heading.specs.Calls.{external_checks, unaided_checks}
use Rattle.reached.specs.Runs.{Call, update, restart, skip_startup, set_settings, set_sample_period, set_quaternion, outline_of}
use Rattle.reached.specs.Runs.{set_heading, update_external_heading, update_no_magnetometer, checks_of, Readings, readings_of}

-- ---- the set is not none only in startup

abbrev pub OnlyInStartup : Ahrs → Type 0
OnlyInStartup s = s.startup ≡ false → s.overrange_recovery ≡ none

-- of every reached state
abbrev pub StaysInStartup : Type 0
StaysInStartup =
    (t : Settings) (cs : List Call)
    → OnlyInStartup (fresh_of t (derived_of t)) × Throughout OnlyInStartup (run_of outline_of (fresh_of t (derived_of t)) cs)

-- ---- what a call leaves of it

-- an update: while startup goes on, the reading's own set where that is not none; none where startup has ended
abbrev pub axes_updated : Ahrs → Vector → Vector → Vector → Axes
axes_updated s g a m =
    let over = over_of s.config g in
    cond (updated_of s g a m).startup (cond (any_of over) over s.overrange_recovery) none

abbrev pub axes_after : Ahrs → Call → Axes
axes_after s (update g a m) = accepted (refusal_of (update_checks s g a m)) (axes_updated s g a m) s.overrange_recovery
axes_after s (update_external_heading g a h) =
    accepted (refusal_of (external_checks s g a h)) (axes_updated s g a (magnetometer_of s.quaternion h)) s.overrange_recovery
axes_after s (update_no_magnetometer g a) = accepted (refusal_of (unaided_checks s g a)) (axes_updated s g a zero_vector) s.overrange_recovery
axes_after s restart = accepted (refusal_of (state_checks s)) none s.overrange_recovery
axes_after s skip_startup = accepted (refusal_of (state_checks s)) none s.overrange_recovery
axes_after s (set_settings t) = s.overrange_recovery
axes_after s (set_sample_period p) = s.overrange_recovery
axes_after s (set_quaternion q) = s.overrange_recovery
axes_after s (set_heading h) = s.overrange_recovery

-- so it is of every reached state, and of any other whose set is not none only in startup
abbrev pub Latest : Type 0
Latest = (s : Ahrs) → OnlyInStartup s → (c : Call) → (step_of outline_of s c).state.overrange_recovery ≡ axes_after s c

-- an accepted update, of whatever kind, in which overrange fired and after which startup goes on: exactly that reading's set, on any state
abbrev pub ReadingsOwn : Type 0
ReadingsOwn =
    (s : Ahrs) (c : Call) (r : Readings) → readings_of s c ≡ some r → refusal_of (checks_of s c) ≡ 0 → any_of (over_of s.config r.gyroscope) ≡ true
    → let next = (step_of outline_of s c).state in next.startup ≡ true → next.overrange_recovery ≡ over_of s.config r.gyroscope
