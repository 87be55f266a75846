-- Demand 3: the estimator commutes with turning. Two runs, of which the second is handed every finite reading and set offset turned first, and any
-- other as it is: the same calls are refused with the same numbers, settings, timer and active flag agree after each call, and rates and offset are
-- those of the first run turned, zero's sign ignored.
use Rattle.std.specs.Prelude.{◌≡◌, cond, List, [], ◌∷◌, map, ℕ, ◌<◌}
use Rattle.answer.specs.Answers.{refused}
use Rattle.answer.specs.Refusals.{refusal_of}
use Rattle.answer.specs.Runs.{Told, answer, number, Step, run_of}
use Rattle.vector.specs.declared.Vector.{Vector}
use Rattle.vector.specs.Vectors.{finite_vector}
use Rattle.vector.specs.Mounting.{Mounting, mounting_of, turn}
use Rattle.vector.specs.Turned.{TurnedBy}
use Rattle.bias.specs.declared.BiasSettings.{BiasSettings}
use Rattle.bias.specs.declared.Bias.{Bias}
use Rattle.bias.specs.Estimator.{fresh_of, active_of}
use Rattle.bias.specs.Calls.{settings_checks, rates_of}
use Rattle.symmetry.specs.Runs.{Call, reading, set_offset, restart, set_settings, outline_of}

-- ---- the second run's calls

-- turned where it is finite, as it is elsewhere
abbrev pub turn_finite : Mounting → Vector → Vector
turn_finite m v = cond (finite_vector v) (turn m v) v

abbrev pub turn_call : Mounting → Call → Call
turn_call m (reading g) = reading (turn_finite m g)
turn_call m (set_offset v) = set_offset (turn_finite m v)
turn_call m restart = restart
turn_call m (set_settings s) = set_settings s

-- ---- what the two runs share

pub record Alike (m : Mounting) (a b : Bias) : Type 0 where
  pub settings : b.settings ≡ a.settings
  pub coefficient : b.filter_coefficient ≡ a.filter_coefficient
  pub timeout : b.timeout ≡ a.timeout
  pub timer : b.timer ≡ a.timer
  pub offset : TurnedBy m a.offset b.offset

pub data AlikeTold (m : Mounting) : Told → Told → Type 0 where
  both_rates : {v w : Vector} → TurnedBy m v w → AlikeTold m (answer (rates_of v)) (answer (rates_of w))
  both_refused : (n : ℕ) → AlikeTold m (answer (refused n)) (answer (refused n))
  both_number : (n : ℕ) → AlikeTold m (number n) (number n)

pub record AlikeStep (m : Mounting) (p q : Step Bias) : Type 0 where
  pub state : Alike m p.state q.state
  pub active : active_of q.state ≡ active_of p.state
  pub told : AlikeTold m p.told q.told

pub data AlikeRun (m : Mounting) : List (Step Bias) → List (Step Bias) → Type 0 where
  none : AlikeRun m [] []
  next : {p q : Step Bias} {ps qs : List (Step Bias)} → AlikeStep m p q → AlikeRun m ps qs → AlikeRun m (p ∷ ps) (q ∷ qs)

-- ---- accepted settings, any one mounting, any run of calls
abbrev pub Symmetric : Type 0
Symmetric =
    (n : ℕ) → n < 24 → (s : BiasSettings) → refusal_of (settings_checks s) ≡ 0 → (cs : List Call)
    → AlikeRun (mounting_of n) (run_of outline_of (fresh_of s) cs) (run_of outline_of (fresh_of s) (map (turn_call (mounting_of n)) cs))
