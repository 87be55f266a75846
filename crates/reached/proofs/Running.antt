-- From a fresh filter every state is sound: `StaysSound` holds. Assumes nothing.
use mathlib.Core.Path.{◌≡◌}
use Rattle.answer.specs.Refusals.{refusal_of}
use Rattle.answer.specs.Runs.{step_of}
use Rattle.answer.proofs.Running.{kept}
use Rattle.settings.specs.declared.Settings.{Settings}
use Rattle.settings.specs.Config.{derived_of, settings_checks}
use Rattle.ahrs.specs.declared.Ahrs.{Ahrs}
use Rattle.ahrs.specs.Filter.{fresh_of}
use Rattle.reached.specs.Runs.{Call, outline_of}
use Rattle.reached.specs.Reached.{Sound, StaysSound}
use Rattle.reached.proofs.Keeping as keeping
use Rattle.reached.proofs.Accepting.{start_accepted}
use Rattle.reached.proofs.Sound.{updated_sound, startup_sound, fresh_sound, restarted_sound, settings_sound, period_sound, quaternion_sound}

pub after_call : (s : Ahrs) → Sound s → (c : Call) → Sound (step_of outline_of s c).state
after_call s h c =
    keeping.after_call Sound s h c
    (record {
      updated = updated_sound s h;
      restarted = restarted_sound s h;
      skipped = startup_sound s h;
      settings = λ t e a. settings_sound s t (derived_of t) h a.known a.finite a.config a.timeout;
      period = λ p f. period_sound s p h f;
      quaternion = λ q e f. quaternion_sound s q h f;
      headed = λ n k x f. quaternion_sound n _ k f;
    })

pub started_sound : (t : Settings) → refusal_of (settings_checks t) ≡ 0 → Sound (fresh_of t (derived_of t))
started_sound t e =
    let a = start_accepted t e in
    fresh_sound t (derived_of t) a.known a.finite a.config a.timeout

pub stays_sound : StaysSound
stays_sound t e cs = (started_sound t e, kept _ _ outline_of Sound after_call (fresh_of t (derived_of t)) (started_sound t e) cs)
