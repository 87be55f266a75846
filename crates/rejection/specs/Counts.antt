-- 01, "Filter", one rejection step, as far as it counts: the trigger, the threshold, and whether the reading's residual is used.
use Rattle.std.specs.Prelude.{Bool, not, cond, ◌||◌, ℤ, pos, ◌+ℤ◌, ◌-ℤ◌}
use Rattle.std.specs.Int.Signed.{lt_z}
use Rattle.number.specs.Whole.{saturated_of, clamp_of}
use Rattle.rejection.specs.declared.Counts.{Counts}
use Rattle.rejection.specs.declared.Updated.{Updated}

abbrev pub counted : ℤ → ℤ → Counts
counted trigger threshold = record { trigger = trigger; threshold = threshold }

-- freshly reset
abbrev pub reset_of : ℤ → Counts
reset_of timeout = counted (pos 0) timeout

-- over the limit and not in startup it rises by 1, otherwise it drops by 9; both saturate
unfoldable pub moved_of : Bool → ℤ → ℤ
moved_of over trigger = cond over (saturated_of (trigger +ℤ pos 1)) (saturated_of (trigger -ℤ pos 9))

-- The moved trigger is compared with the old threshold. If it is above, the threshold becomes 0 and the residual is used;
-- if not, the threshold becomes T, and a reading over the limit is ignored. Only then is the trigger clamped.
abbrev pub settled_of : ℤ → ℤ → ℤ → Bool → Updated
settled_of timeout threshold moved over =
    record {
      counts = counted (clamp_of moved (pos 0) timeout) (cond (lt_z threshold moved) (pos 0) timeout);
      used = lt_z threshold moved || not over;
    }

unfoldable pub updated_of : ℤ → Counts → Bool → Updated
updated_of timeout c over = settled_of timeout c.threshold (moved_of over c.trigger) over

-- whether the recovery flag is up
abbrev pub recovery_of : Counts → Bool
recovery_of c = lt_z c.threshold c.trigger
