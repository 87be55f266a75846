-- Each call of the estimator by the refusal table: its checks, what it gives, and its promise.
use Rattle.answer.specs.Said.{alone}
use Rattle.std.specs.Prelude.{Bool, not, ◌&&◌, List, [], ◌∷◌, Float}
use Rattle.std.specs.Float.Ieee.Scale.{finite}
use Rattle.std.specs.declared.result.Result.{Result}
use Rattle.answer.specs.declared.Answer.{Answer}
use Rattle.answer.specs.declared.Answer.TheVariants.{Rates}
use Rattle.answer.specs.declared.change.Change.{Change}
use Rattle.answer.specs.declared.change.Reading.{Reading}
use Rattle.answer.specs.declared.refusal.Refusal.{Refusal}
use Rattle.answer.specs.Refusals.{Check, check}
use Rattle.answer.specs.Rows.{number_in}
use Rattle.answer.specs.Promises.{Results, Changed, Moved}
use Rattle.vector.specs.declared.Vector.{Vector}
use Rattle.vector.specs.Vectors.{finite_vector}
use Rattle.bias.specs.declared.BiasSettings.{BiasSettings}
use Rattle.bias.specs.declared.Bias.{Bias}
use Rattle.bias.specs.Settings.{coefficient_of, finite_settings, above_zero}
use Rattle.bias.specs.Estimator.{finite_bias, fresh_of, with_offset, with_settings, restarted, active_of, corrected_of, advanced_of}

-- ---- a start

-- what finite settings are refused for
abbrev pub deriving_checks : BiasSettings → List Check
deriving_checks s = check 6 (not (above_zero s)) ∷ check 7 (not (finite (coefficient_of s))) ∷ []

abbrev pub settings_checks : BiasSettings → List Check
settings_checks s = check 5 (not (finite_settings s)) ∷ deriving_checks s

abbrev pub Starts : BiasSettings → Result Bias Refusal → Type 0
Starts s r = Results alone (settings_checks s) (fresh_of s) r

-- ---- a reading

abbrev pub reading_checks : Bias → Vector → List Check
reading_checks b g =
    check 5 (not (finite_bias b && finite_vector g)) ∷
    check 7 (not (finite_bias (advanced_of b (corrected_of b g)) && finite_vector (corrected_of b g))) ∷
    []

abbrev pub rates_of : Vector → Answer
rates_of v = Rates v.x v.y v.z

abbrev pub Reads : Bias → Vector → Reading Bias → Type 0
Reads b g r = Moved (reading_checks b g) (rates_of (corrected_of b g)) (advanced_of b (corrected_of b g)) b r.state r.answer

-- ---- changes

abbrev pub offset_checks : Bias → Vector → List Check
offset_checks b v = check 5 (not (finite_bias b && finite_vector v)) ∷ []

abbrev pub SetsOffset : Bias → Vector → Change Bias → Type 0
SetsOffset b v r = Changed (offset_checks b v) (with_offset b v) b r.state (number_in r.result)

abbrev pub state_checks : Bias → List Check
state_checks b = check 5 (not (finite_bias b)) ∷ []

abbrev pub Restarts : Bias → Change Bias → Type 0
Restarts b r = Changed (state_checks b) (restarted b) b r.state (number_in r.result)

abbrev pub change_checks : Bias → BiasSettings → List Check
change_checks b s = check 5 (not (finite_bias b && finite_settings s)) ∷ deriving_checks s

abbrev pub SetsSettings : Bias → BiasSettings → Change Bias → Type 0
SetsSettings b s r = Changed (change_checks b s) (with_settings b s) b r.state (number_in r.result)

-- ---- reads

abbrev pub SettingsReads : Bias → Result BiasSettings Refusal → Type 0
SettingsReads b r = Results alone (state_checks b) b.settings r

abbrev pub axes_said : Vector → List Float
axes_said v = v.x ∷ v.y ∷ v.z ∷ []

abbrev pub OffsetReads : Bias → Result Vector Refusal → Type 0
OffsetReads b r = Results axes_said (state_checks b) b.offset r

abbrev pub ActiveReads : Bias → Result Bool Refusal → Type 0
ActiveReads b r = Results alone (state_checks b) (active_of b) r
