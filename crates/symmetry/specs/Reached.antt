-- The states that a run reaches from a fresh estimator: each of their floats is finite, so no call on one is refused for the state's sake.
use Rattle.std.specs.Prelude.{◌≡◌, true, List}
use Rattle.answer.specs.Refusals.{refusal_of}
use Rattle.answer.specs.Runs.{run_of, Throughout}
use Rattle.bias.specs.declared.BiasSettings.{BiasSettings}
use Rattle.bias.specs.declared.Bias.{Bias}
use Rattle.bias.specs.Estimator.{fresh_of, finite_bias}
use Rattle.bias.specs.Calls.{settings_checks}
use Rattle.symmetry.specs.Runs.{Call, outline_of}

abbrev pub Finite : Bias → Type 0
Finite b = finite_bias b ≡ true

abbrev pub StaysFinite : Type 0
StaysFinite =
    (s : BiasSettings) → refusal_of (settings_checks s) ≡ 0 → (cs : List Call)
    → Finite (fresh_of s) × Throughout Finite (run_of outline_of (fresh_of s) cs)
