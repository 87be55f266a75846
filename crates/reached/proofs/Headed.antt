-- A heading that is set leaves all of a state but its orientation, and so does an update with no magnetometer beside what an update leaves. Assumes nothing.
use mathlib.Core.Path.{◌≡◌, refl}
use mathlib.Core.Bool.{Bool, true, false, cond}
use Rattle.number.specs.Float32.{zero}
use Rattle.math.specs.declared.quaternion.Quaternion.{Quaternion}
use Rattle.ahrs.specs.declared.Ahrs.{Ahrs}
use Rattle.ahrs.specs.Filter.{with_quaternion}
use Rattle.heading.specs.Turn.{headed_of}
use Rattle.heading.specs.Calls.{with_heading, northed_of}

-- what holds of a state, and in startup of it with a heading of 0
pub northed : (Q : Ahrs → Type 0) (n : Ahrs) → Q n → (n.startup ≡ true → Q (with_heading n zero)) → Q (northed_of n)
northed Q n h k = go n.startup refl
  where
    go : (b : Bool) → n.startup ≡ b → Q (cond b (with_heading n zero) n)
    go true e = k e
    go false e = h

-- what is read of a state beside its orientation
pub as_read : {A : Type 0} (read : Ahrs → A) → ((s : Ahrs) (q : Quaternion) → read (with_quaternion s q) ≡ read s) → (n : Ahrs) → read (northed_of n) ≡ read n
as_read read h n = northed (λ (k : Ahrs). read k ≡ read n) n refl (λ e. h n (headed_of n.quaternion zero))
