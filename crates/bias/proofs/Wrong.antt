-- Wrong answers that the promises refuse, two at least for each call, each by evaluation. Assumes nothing.
use Prim.Native.Nat.{ℕ}
use native.Mathlib.Omega.{arith}
use mathlib.Core.Path.{◌≡◌, refl, ap, sym, ◌∙◌}
use mathlib.Core.Bool.{Bool, true, false, cond, true≢false, false≢true}
use mathlib.Core.List.{List, [], ◌∷◌}
use lib.IntN.{pos, negsuc}
use lib.Ieee.{Float, nan, fin, of_bits, to_bits, to_unsigned, lt, add, sub, mul, div, neg, sum, round, units, odd}
use Rattle.std.specs.declared.result.Result.{Result}
use Rattle.std.specs.declared.result.Result.TheVariants.{Ok, Err}
use Rattle.answer.specs.declared.Answer.{Answer}
use Rattle.answer.specs.declared.Answer.TheVariants.{Rates, Refused}
use Rattle.answer.specs.declared.refusal.Refusal.{Refusal}
use Rattle.answer.specs.declared.refusal.Refusal.TheVariants.{NotFinite, OutOfRange}
use Rattle.answer.specs.Refusals.{refusal_of, accepted}
use Rattle.answer.specs.Rows.{row_of}
use Rattle.number.specs.Float32.{◌⊗◌, ◌⊘◌}
use Rattle.number.specs.Same.{fabsf_of}
use Rattle.number.proofs.Apart.{apart, bits, nought, one, two, unlike}
use Rattle.vector.specs.declared.Vector.{Vector}
use Rattle.vector.specs.Vectors.{vector, finite_vector, exceeds_of}
use Rattle.bias.specs.declared.BiasSettings.{BiasSettings}
use Rattle.bias.specs.declared.Bias.{Bias}
use Rattle.bias.specs.Settings.{pi, coefficient_of, timeout_of, finite_settings}
use Rattle.bias.specs.Estimator.{finite_bias, fresh_of, with_timer, with_offset, with_settings, restarted, corrected_of, advanced_of}
use Rattle.bias.specs.Calls.{settings_checks, reading_checks, Starts, Reads, SetsOffset, Restarts, SetsSettings, SettingsReads, OffsetReads, ActiveReads}
use Rattle.bias.proofs.Advancing.{moving}

-- a rate of r, the rest ones
abbrev at_rate : Float → BiasSettings
at_rate r = record { sample_rate = r; stationary_threshold = one; stationary_period = one; cutoff_frequency = one }

-- a NaN taken; finite settings refused
pub of_settings_is_finite : (true ≡ finite_settings (at_rate nan) → ⊥) × (false ≡ finite_settings (at_rate one) → ⊥)
unfolding finite_settings
of_settings_is_finite = (true≢false, false≢true)

-- of settings, their number: a rate of zero taken; a NaN refused for its sign
pub of_settings_refusal : (0 ≡ refusal_of (settings_checks (at_rate nought)) → ⊥) × (6 ≡ refusal_of (settings_checks (at_rate nan)) → ⊥)
unfolding refusal_of finite_settings lt of_bits
of_settings_refusal = (λ h. omega arith, λ h. omega arith)

-- so it is of the number that their check's result has
pub of_settings_check : (0 ≡ refusal_of (settings_checks (at_rate nought)) → ⊥) × (6 ≡ refusal_of (settings_checks (at_rate nan)) → ⊥)
of_settings_check = of_settings_refusal

abbrev one_and_a_half : Float
one_and_a_half = fin false 3 (negsuc 0)

abbrev three : Float
three = fin false 3 (pos 0)

abbrev five : Float
five = fin false 5 (pos 0)

-- a rate and a cutoff whose order of operations shows
abbrev ordered : BiasSettings
ordered = record { sample_rate = five; stationary_threshold = one; stationary_period = one; cutoff_frequency = three }

-- a fresh estimator with another coefficient and timeout
abbrev fresh : BiasSettings → Float → ℕ → Result Bias Refusal
fresh s k n = Ok (record { settings = s; filter_coefficient = k; timeout = n; timer = 0; offset = (fresh_of s).offset })

abbrev timeout_in : Result Bias Refusal → ℕ
timeout_in (Ok b) = b.timeout
timeout_in (Err e) = 0

abbrev coefficient_in : Result Bias Refusal → ℕ
coefficient_in (Ok b) = bits b.filter_coefficient
coefficient_in (Err e) = 0

-- a rate of -0.0 started; a NaN refused for its sign; a timeout rounded up; the two left out of (2 x pi); the coefficient in another order
pub of_start
    : (Starts (at_rate (fin true 0 (pos 0))) (Ok (fresh_of (at_rate (fin true 0 (pos 0))))) → ⊥)
    × (Starts (at_rate nan) (Err OutOfRange) → ⊥)
    × (Starts (at_rate one_and_a_half) (fresh (at_rate one_and_a_half) (coefficient_of (at_rate one_and_a_half)) 2) → ⊥)
    × (Starts (at_rate one) (fresh (at_rate one) pi 1) → ⊥)
    × (Starts ordered (fresh ordered (two ⊗ pi ⊗ (three ⊗ (one ⊘ five))) 5) → ⊥)
unfolding refusal_of finite_settings coefficient_of timeout_of to_unsigned lt mul div round units odd of_bits to_bits
of_start = (
  λ h. unlike 0 6 refl h.number,
  λ h. unlike 6 5 refl h.number,
  λ h. unlike 2 1 refl (ap timeout_in h.exact),
  λ h. apart coefficient_in h.exact refl,
  λ h. apart coefficient_in h.exact refl,
)

-- an estimator that waits, with its timer at 2 of 5
abbrev waiting : Bias
waiting = record { settings = at_rate one; filter_coefficient = one; timeout = 5; timer = 2; offset = vector nought nought nought }

abbrev still : Vector
still = vector nought nought nought

-- a state that is refused
abbrev broken : Bias
broken = with_offset waiting (vector nought nought nan)

abbrev timer : Bias → ℕ
timer b = b.timer

-- a timer cleared; the new timeout left out; a rate of zero set
pub of_set_settings
    : (SetsSettings waiting (at_rate two) (record { state = with_timer (with_settings waiting (at_rate two)) 0; result = Ok tt }) → ⊥)
    × (SetsSettings waiting (at_rate two) (record { state = waiting; result = Ok tt }) → ⊥)
    × (SetsSettings waiting (at_rate nought) (record { state = waiting; result = Ok tt }) → ⊥)
unfolding refusal_of finite_bias finite_settings finite_vector coefficient_of timeout_of to_unsigned lt mul div round units odd of_bits
of_set_settings =
    (λ h. unlike 0 2 refl (ap timer h.holds), λ h. unlike 5 2 refl (ap (λ (b : Bias). b.timeout) h.holds), λ h. unlike 0 6 refl h.number)

-- a NaN in the offset taken; a finite state refused
pub of_is_finite : (true ≡ finite_bias broken → ⊥) × (false ≡ finite_bias waiting → ⊥)
unfolding finite_bias finite_settings finite_vector
of_is_finite = (true≢false, false≢true)

-- a timer at the timeout
abbrev learning : Bias
learning = with_timer waiting 5

abbrev on_x : Float → Vector
on_x x = vector x nought nought

abbrev first_of : List Float → ℕ
first_of [] = 0
first_of (x ∷ xs) = bits x

-- of `update`, and of `update_lent`, whose promise is the same: a timer that stands; a reading refused; a vector with a NaN taken; a refused reading that
-- moves the timer; a timer at the timeout that waits once more; the answer of after the growth
pub of_reading
    : (Reads waiting still (record { state = waiting; answer = Rates nought nought nought }) → ⊥)
    × (Reads waiting still (record { state = waiting; answer = Refused NotFinite }) → ⊥)
    × (Reads waiting (on_x nan) (record { state = waiting; answer = Rates nan nought nought }) → ⊥)
    × (Reads waiting (on_x nan) (record { state = with_timer waiting 3; answer = Refused NotFinite }) → ⊥)
    × (Reads learning still (record { state = with_timer learning 6; answer = Rates nought nought nought }) → ⊥)
    × (Reads learning (on_x one) (record { state = with_offset learning (on_x one); answer = Rates nought nought nought }) → ⊥)
unfolding refusal_of finite_bias finite_settings finite_vector advanced_of exceeds_of fabsf_of lt sub add mul neg sum round units odd of_bits to_bits
of_reading = (
  λ h. unlike 2 3 refl (ap timer h.state),
  λ h. unlike 5 0 refl h.answer.number,
  λ h. unlike 0 5 refl h.answer.number,
  λ h. unlike 3 2 refl (ap timer h.state),
  λ h. unlike 6 5 refl (ap timer h.state),
  λ h. apart first_of h.answer.values refl,
)

-- of any state and any reading that is accepted and shows a turn: the timer left as it was, whatever is answered
pub of_moving : (b : Bias) (g : Vector) (a : Answer) → refusal_of (reading_checks b g) ≡ 0
    → exceeds_of (corrected_of b g) b.settings.stationary_threshold ≡ true → (b.timer ≡ 0 → ⊥)
    → Reads b g (record { state = b; answer = a }) → ⊥
of_moving b g a z e runs h =
    let next = advanced_of b (corrected_of b g) in
    runs (ap timer (h.state ∙ ap (λ (n : ℕ). accepted n next b) z ∙ sym (moving b (corrected_of b g) refl e)))

-- a timer cleared; a NaN set
pub of_set_offset
    : (SetsOffset waiting still (record { state = with_timer waiting 0; result = Ok tt }) → ⊥)
    × (SetsOffset waiting (on_x nan) (record { state = with_offset waiting (on_x nan); result = Ok tt }) → ⊥)
unfolding refusal_of finite_bias finite_settings finite_vector
of_set_offset = (λ h. unlike 0 2 refl (ap timer h.holds), λ h. unlike 0 5 refl h.number)

-- a timer kept; a state that is refused, and cleared all the same
pub of_restart
    : (Restarts waiting (record { state = waiting; result = Ok tt }) → ⊥)
    × (Restarts broken (record { state = restarted broken; result = Err NotFinite }) → ⊥)
unfolding refusal_of finite_bias finite_settings finite_vector of_bits
of_restart = (λ h. unlike 2 0 refl (ap timer h.holds), λ h. unlike 0 2 refl (ap timer h.holds))

-- ---- reads

abbrev rate_in : Result BiasSettings Refusal → ℕ
rate_in (Ok s) = bits s.sample_rate
rate_in (Err e) = row_of e

-- another rate; the settings of a state that is refused
pub of_settings
    : (SettingsReads waiting (Ok (at_rate two)) → ⊥) × (SettingsReads broken (Ok (at_rate one)) → ⊥)
unfolding refusal_of finite_bias finite_settings finite_vector to_bits
of_settings = (λ h. apart rate_in h.exact refl, λ h. unlike 0 5 refl h.number)

abbrev x_in : Result Vector Refusal → ℕ
x_in (Ok v) = bits v.x
x_in (Err e) = row_of e

-- an offset that was never learnt; that of a state that is refused
pub of_offset
    : (OffsetReads waiting (Ok (on_x one)) → ⊥)
    × (OffsetReads broken (Ok (vector nought nought nan)) → ⊥)
unfolding refusal_of finite_bias finite_settings finite_vector to_bits
of_offset = (λ h. apart x_in h.exact refl, λ h. unlike 0 5 refl h.number)

abbrev is_active : Result Bool Refusal → ℕ
is_active (Ok t) = cond t 1 0
is_active (Err e) = row_of e

-- active below the timeout; not active at the timeout itself; that of a state that is refused
pub of_is_active
    : (ActiveReads waiting (Ok true) → ⊥)
    × (ActiveReads (with_timer waiting 5) (Ok false) → ⊥)
    × (ActiveReads broken (Ok false) → ⊥)
unfolding refusal_of finite_bias finite_settings finite_vector
of_is_active = (λ h. unlike 1 0 refl (ap is_active h.exact), λ h. unlike 0 1 refl (ap is_active h.exact), λ h. unlike 0 5 refl h.number)
