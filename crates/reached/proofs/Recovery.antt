-- A locked-out sensor of the filter always comes back: `AlwaysBack`, `Unread` and `NeverBegins` hold. Each is the law of the counts, by `Hearing`.
-- Assumes nothing.
use Prim.Native.Nat.{ℕ, ◌<◌, ◌≤◌}
use mathlib.Core.Path.{◌≡◌, refl, ap, sym, subst, ◌∙◌}
use mathlib.Core.Bool.{Bool, true, false, cond}
use mathlib.Core.List.{List}
use lib.IntN.{ℤ, pos}
use Rattle.answer.specs.Runs.{step_of}
use Rattle.vector.specs.Vectors.{zero_vector}
use Rattle.rejection.specs.declared.Counts.{Counts}
use Rattle.rejection.specs.Counts.{reset_of, recovery_of}
use Rattle.rejection.specs.Inside.{ZeroOr}
use Rattle.rejection.specs.Readings.{Kind, over, all_zero, by_kind, after_all}
use Rattle.rejection.specs.Recovery as counts
use Rattle.rejection.specs.Recovery.{begun, largest}
use Rattle.rejection.proofs.Recovery as laws
use Rattle.step.specs.Sensor.{counts_of}
use Rattle.ahrs.specs.declared.Ahrs.{Ahrs}
use Rattle.ahrs.specs.Read.{flags_of}
use Rattle.reached.specs.Runs.{Call, outline_of}
use Rattle.reached.specs.Reached.{Counted, Sound}
use Rattle.reached.specs.Deaf.{Sensor, accelerometer, magnetometer}
use Rattle.reached.specs.Hearing.{Heard, hears, heard_in, rejection_of, residual_in, added_by, Keeps}
use Rattle.reached.specs.Recovery.{flag_of, Led, LockedOut, Over, AlwaysBack, Unread, NeverBegins}
use Rattle.reached.proofs.Hearing.{Left, left_by, follows, adds}

-- ---- what a sensor has

flag_tells : (k : Sensor) (s : Ahrs) → flag_of k s ≡ recovery_of (counts_of (rejection_of k s))
unfolding flags_of
flag_tells accelerometer s = refl
flag_tells magnetometer s = refl

module _ {k : Sensor} {timeout : ℤ} {c : Counts} {s : Ahrs} where
  flag_by : Keeps k timeout c s → flag_of k s ≡ recovery_of c
  flag_by h = flag_tells k s ∙ ap recovery_of h.counts_are

  led : {xs : List Kind} → Led k timeout c xs s → Keeps k timeout (after_all timeout c xs) s
  led {xs} l = subst (Keeps k timeout (after_all timeout c xs)) l.here (follows k timeout c l.start l.kept l.calls xs l.heard)

  with_counts : {d : Counts} → Keeps k timeout c s → c ≡ d → Keeps k timeout d s
  with_counts h e = record { timeout_is = h.timeout_is; counts_are = h.counts_are ∙ e }

-- what it has after a reading
heard_keeps
    : (k : Sensor) (timeout : ℤ) (c : Counts) (s : Ahrs) → Keeps k timeout c s → (call : Call) (x : Kind) → heard_in k s call ≡ hears x
    → Keeps k timeout (by_kind timeout c x).counts (step_of outline_of s call).state
heard_keeps k timeout c s h call x e = subst (λ (x : Heard). Left k timeout c x (step_of outline_of s call).state) e (left_by k timeout c s h call)

-- ---- T from 0 to 2^31 - 2

module _ (k : Sensor) (T : ℕ) (b : T < 2147483647) where
  law : counts.ComesBack T
  law = laws.always_back T b

  adds_by
      : (n : ℕ) (s : Ahrs) → LockedOut k T n s → (used : Bool) → (by_kind (pos T) (counts.locked_out T n) over).used ≡ used
      → (call : Call) → Over k s call → added_by k s call ≡ cond used (residual_in k s call) zero_vector
  adds_by n s l used e call o =
      adds k (pos T) (counts.locked_out T n) s (led l) call over o ∙ ap (λ (b : Bool). cond b (residual_in k s call) zero_vector) e

  sound_threshold : (s : Ahrs) → Sound s → s.config.rejection_timeout ≡ pos T → ZeroOr (pos T) (counts_of (rejection_of k s)).threshold
  sound_threshold s h e = subst (λ (z : ℤ). ZeroOr z (counts_of (rejection_of k s)).threshold) e (of_sensor k).threshold
    where
      of_sensor : (k : Sensor) → Counted s.config.rejection_timeout (rejection_of k s)
      of_sensor accelerometer = h.acceleration
      of_sensor magnetometer = h.magnetic

  up_at
      : (s : Ahrs) → Sound s → s.config.rejection_timeout ≡ pos T → flag_of k s ≡ true → (rejection_of k s).recovery_trigger ≡ pos T
      → Keeps k (pos T) (begun T) s
  up_at s h e up t =
      record {
        timeout_is = e;
        counts_are = law.begun_is (counts_of (rejection_of k s)) (sound_threshold s h e) (sym (flag_tells k s) ∙ up) t;
      }

  -- in recovery, whatever the trigger is
  module _ (s : Ahrs) (h : Sound s) (e : s.config.rejection_timeout ≡ pos T) (up : flag_of k s ≡ true) (call : Call) (o : Over k s call) where
    has : Keeps k (pos T) (counts_of (rejection_of k s)) s
    has = record { timeout_is = e; counts_are = refl }

    bad_added : added_by k s call ≡ residual_in k s call
    bad_added =
        adds k (pos T) _ s has call over o
        ∙ ap (λ (b : Bool). cond b (residual_in k s call) zero_vector) (law.bad_used _ (sound_threshold s h e) (sym (flag_tells k s) ∙ up))

    bad_stays : 1 ≤ T → flag_of k (step_of outline_of s call).state ≡ true
    bad_stays one = flag_by (heard_keeps k (pos T) _ s has call over o) ∙ law.bad one _ (sound_threshold s h e) (sym (flag_tells k s) ∙ up)

pub always_back : AlwaysBack
always_back k T b =
    let law = laws.always_back T b in
    record {
      trigger = λ n s l. ap (λ (c : Counts). c.trigger) (led l).counts_are ∙ law.trigger n;
      ignored = λ n s l p. adds_by k T b n s l false (law.ignored n p);
      used = λ n s l p. adds_by k T b n s l true (law.used n p);
      begins = λ n s l p. with_counts (led l) (law.begins n p);
      begun_is = up_at k T b;
      not_sooner = λ n s l p. flag_by (led l) ∙ law.not_sooner n p;
      ends = λ one n s l p. with_counts (led l) (law.ends one n p);
      bad_used = bad_added k T b;
      bad = λ one s h e up call o. bad_stays k T b s h e up call o one;
    }

pub unread : Unread
unread k s call e =
    (heard_keeps k s.config.rejection_timeout (counts_of (rejection_of k s)) s (record { timeout_is = refl; counts_are = refl }) call all_zero e).counts_are

-- ---- T = 2^31 - 1

pub never_begins : NeverBegins
never_begins =
    record {
      down = λ k xs s l. flag_by (led l) ∙ (laws.never_begins).down xs;
      ignored = λ k xs s l call o.
          adds k largest (after_all largest (reset_of largest) xs) s (led l) call over o
          ∙ ap (λ (b : Bool). cond b (residual_in k s call) zero_vector) ((laws.never_begins).ignored xs);
    }
