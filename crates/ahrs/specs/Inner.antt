-- What the update's inner functions promise to it.
use Rattle.std.specs.Prelude.{ℕ, ◌≡◌, Bool, ◌&&◌}
use Rattle.std.specs.Float.Ieee.Scale.{finite}
use Rattle.answer.specs.Refusals.{refusal_of}
use Rattle.vector.specs.declared.Vector.{Vector}
use Rattle.vector.specs.Vectors.{finite_vector}
use Rattle.step.specs.Sensor.{finite_rejection}
use Rattle.ahrs.specs.declared.Ahrs.{Ahrs}
use Rattle.ahrs.specs.Calls.{update_checks}

-- what an update drops of the state; all else that it reads shows in the next state, which is not finite where that is not
abbrev pub finite_dropped : Ahrs → Bool
finite_dropped s = finite_vector s.accelerometer && finite_rejection s.acceleration && finite_rejection s.magnetic && finite s.startup_gain

-- r is the number of an update that is refused
abbrev pub UpdateRefusal : Ahrs → Vector → Vector → Vector → ℕ → Type 0
UpdateRefusal s g a m r = (refusal_of (update_checks s g a m) ≡ 0 → ⊥) → r ≡ refusal_of (update_checks s g a m)
