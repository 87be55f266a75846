-- What the state has beyond the Rust's is only shown: which axes went over (02 P2), and how long each sensor has been ignored (02 P5). So demand 2 reads over
-- the rest, and over whether any axis went over.
use Rattle.std.specs.Prelude.{◌≡◌}
use Rattle.answer.specs.Runs.{step_of}
use Rattle.settings.specs.Axes.{none}
use Rattle.step.specs.declared.Rejection.{Rejection}
use Rattle.ahrs.specs.declared.Ahrs.{Ahrs}
use Rattle.ahrs.specs.Filter.{starting, rejecting}
use Rattle.reached.specs.Runs.{Call, outline_of}

abbrev pub uncounted : Rejection → Rejection
uncounted r =
    record {
      half_residual = r.half_residual;
      recovery_trigger = r.recovery_trigger;
      recovery_threshold = r.recovery_threshold;
      ignored = r.ignored;
      ignored_count = 0;
    }

-- a state with the axes and the counts forgotten
abbrev pub forgotten : Ahrs → Ahrs
forgotten s = rejecting (starting s s.startup s.startup_gain none) (uncounted s.acceleration) (uncounted s.magnetic)

-- what a call tells, and all else that it leaves, are the same with them forgotten before it
pub record OnlyShown : Type 0 where
  pub told : (s : Ahrs) (c : Call) → (step_of outline_of (forgotten s) c).told ≡ (step_of outline_of s c).told
  pub rest : (s : Ahrs) (c : Call) → forgotten (step_of outline_of (forgotten s) c).state ≡ forgotten (step_of outline_of s c).state
