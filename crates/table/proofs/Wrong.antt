-- Wrong answers that the promises refuse, two at least for each public call, each by evaluation. Assumes nothing.
use Prim.Native.Nat.{ℕ}
use mathlib.Core.Path.{◌≡◌, ap}
use mathlib.Core.List.{List, [], ◌∷◌, map, ◌++◌}
use lib.Ieee.{Float, nan, eq, ne, lt, le, add, sub, mul, div, neg, sum, round, units, odd, of_bits}
use Rattle.number.proofs.Apart.{nought, one}
use Rattle.std.specs.declared.result.Result.{Result}
use Rattle.std.specs.declared.result.Result.TheVariants.{Ok, Err}
use Rattle.answer.specs.declared.refusal.Refusal.{Refusal}
use Rattle.answer.specs.declared.change.Change.{Change}
use Rattle.answer.specs.Refusals.{refusal_of}
use Rattle.answer.specs.Rows.{row_of as number_of, number_in}
use Rattle.vector.specs.Vectors.{finite_vector}
use Rattle.math.specs.Quaternions.{finite_quaternion}
use Rattle.settings.specs.declared.Settings.{Settings}
use Rattle.settings.specs.declared.limit.Limit.TheVariants.{Squared}
use Rattle.settings.specs.Config.{finite_settings, limit_of, derived_of, finite_config}
use Rattle.step.specs.Sensor.{reset_of, finite_rejection}
use Rattle.ahrs.specs.Filter.{finite_state, fresh_of, with_threshold, with_settings}
use Rattle.table.specs.declared.Table.{Table}
use Rattle.table.specs.declared.Party.{Party}
use Rattle.table.specs.declared.foot.Foot.{Foot}
use Rattle.table.specs.declared.foot.Side.{Side}
use Rattle.table.specs.declared.foot.Side.TheVariants.{First, Second}
use Rattle.table.specs.Calls.{party, row_of, with_row, Starts, settled_of, Chosen, Chooses, Resettles, Rewrites}
use Rattle.table.specs.Sides.{other, party_of, with_filter, FootChooses, FootRewrites}

-- a rate and a convention, by which settings are told apart
abbrev settings : Float → ℕ → Settings
settings rate n =
    record {
      sample_rate = rate;
      convention = n;
      gain = nought;
      gyroscope_range = nought;
      acceleration_rejection = Squared one;
      magnetic_rejection = Squared one;
      rejection_timeout = nought;
    }

abbrev sound : ℕ → Settings
sound n = settings one n

abbrev broken : ℕ → Settings
broken n = settings nan n

-- a row for each convention, an unknown one, and a NaN; the rest are as the first
abbrev table : Table
table = record { rows = sound 0 ∷ sound 1 ∷ sound 2 ∷ sound 3 ∷ broken 2 ∷ sound 0 ∷ sound 0 ∷ sound 0 ∷ [] }

-- a party on a row, with a convention
abbrev on : ℕ → ℕ → Party
on row n = party (fresh_of (sound n) (derived_of (sound n))) row

-- the row that a party uses, and the convention of its settings
abbrev shown : Party → List ℕ
shown p = p.row ∷ p.filter.settings.convention ∷ []

abbrev told : Result Party Refusal → List ℕ
told (Ok p) = shown p
told (Err e) = number_of e ∷ []

-- the conventions of the rows
abbrev held : Table → List ℕ
held t = map (λ (s : Settings). s.convention) t.rows

-- ---- a start

-- sound settings: any other answer than a party on row 0 with them, be it a refusal, the second's row or the same whatever was given; an unknown
-- convention started
pub of_first
    : ((r : Result Party Refusal) → (told r ≡ 0 ∷ 1 ∷ [] → ⊥) → Starts 0 (sound 1) r → ⊥)
    × ((r : Result Party Refusal) → (told r ≡ 4 ∷ [] → ⊥) → Starts 0 (sound 3) r → ⊥)
unfolding refusal_of finite_settings finite_config derived_of limit_of fresh_of eq ne lt le add sub mul div neg sum round units odd of_bits
of_first = (λ r other h. other (ap told h.exact), λ r other h. other (ap told h.exact))

-- the same of the second, on row 1
pub of_second
    : ((r : Result Party Refusal) → (told r ≡ 1 ∷ 1 ∷ [] → ⊥) → Starts 1 (sound 1) r → ⊥)
    × ((r : Result Party Refusal) → (told r ≡ 5 ∷ [] → ⊥) → Starts 1 (broken 0) r → ⊥)
unfolding refusal_of finite_settings finite_config derived_of limit_of fresh_of eq ne lt le add sub mul div neg sum round units odd of_bits
of_second = (λ r other h. other (ap told h.exact), λ r other h. other (ap told h.exact))

-- ---- a choice

-- row 2, which holds a convention of 1: refused, by one that always does; any other row or convention afterwards, be it the state untouched, the row kept
-- or the settings
pub of_choice
    : ((r : Change Party) → (number_in r.result ≡ 0 → ⊥) → Chosen (sound 1) (on 0 0) 2 r → ⊥)
    × ((r : Change Party) → (shown r.state ≡ 2 ∷ 1 ∷ [] → ⊥) → Chosen (sound 1) (on 0 0) 2 r → ⊥)
unfolding refusal_of finite_state finite_settings finite_config finite_quaternion finite_vector finite_rejection fresh_of reset_of derived_of limit_of
    row_of with_row settled_of with_settings with_threshold eq ne lt le add sub mul div neg sum round units odd of_bits
of_choice = (λ r other h. other h.number, λ r other h. other (ap shown h.holds))

-- any other number than 4 where row 8 is chosen or in use; than 5 for a NaN in the row. A refused choice that moves the row
pub of_refused_choice
    : ((r : Change Party) → (number_in r.result ≡ 4 → ⊥) → Chosen (sound 1) (on 0 0) 8 r → ⊥)
    × ((r : Change Party) → (number_in r.result ≡ 4 → ⊥) → Chosen (broken 1) (on 8 0) 2 r → ⊥)
    × ((r : Change Party) → (number_in r.result ≡ 5 → ⊥) → Chosen (broken 1) (on 0 0) 2 r → ⊥)
    × ((r : Change Party) → (shown r.state ≡ 0 ∷ 0 ∷ [] → ⊥) → Chosen (broken 1) (on 0 0) 2 r → ⊥)
    × ((r : Change Party) → (shown r.state ≡ 0 ∷ 0 ∷ [] → ⊥) → Chosen (sound 1) (on 0 0) 8 r → ⊥)
unfolding refusal_of finite_state finite_settings finite_config finite_quaternion finite_vector finite_rejection fresh_of reset_of derived_of limit_of
    row_of with_row settled_of with_settings with_threshold eq ne lt le add sub mul div neg sum round units odd of_bits
of_refused_choice = (
  λ r other h. other h.number,
  λ r other h. other h.number,
  λ r other h. other h.number,
  λ r other h. other (ap shown h.holds),
  λ r other h. other (ap shown h.holds),
)

-- of `choose_lent`: row 2 with any other settings than it holds, be it those of the other's row 1; then, on row 2, the first row anew with any but its own,
-- be it the same answer again; row 1, which the other may use, refused
pub of_choice_lent
    : ((r : Change Party) → (shown r.state ≡ 2 ∷ 2 ∷ [] → ⊥) → Chooses table (on 0 0) 2 r → ⊥)
    × ((r : Change Party) → (shown r.state ≡ 0 ∷ 0 ∷ [] → ⊥) → Chooses table (settled_of (on 0 0) (sound 2) 2) 0 r → ⊥)
    × ((r : Change Party) → (number_in r.result ≡ 0 → ⊥) → Chooses table (on 0 0) 1 r → ⊥)
unfolding refusal_of finite_state finite_settings finite_config finite_quaternion finite_vector finite_rejection fresh_of reset_of derived_of limit_of
    row_of with_row settled_of with_settings with_threshold eq ne lt le add sub mul div neg sum round units odd of_bits
of_choice_lent = (
  λ r other h. other (ap shown h.holds),
  λ r other h. other (ap shown h.holds),
  λ r other h. other h.number,
)

-- of one that is refused: any other number than 4 for an unknown convention in the row, and for row 8; the row moved
pub of_refused_choice_lent
    : ((r : Change Party) → (number_in r.result ≡ 4 → ⊥) → Chooses table (on 0 0) 3 r → ⊥)
    × ((r : Change Party) → (number_in r.result ≡ 4 → ⊥) → Chooses table (on 0 0) 8 r → ⊥)
    × ((r : Change Party) → (shown r.state ≡ 0 ∷ 0 ∷ [] → ⊥) → Chooses table (on 0 0) 4 r → ⊥)
unfolding refusal_of finite_state finite_settings finite_config finite_quaternion finite_vector finite_rejection fresh_of reset_of derived_of limit_of
    row_of with_row settled_of with_settings with_threshold eq ne lt le add sub mul div neg sum round units odd of_bits
of_refused_choice_lent = (
  λ r other h. other h.number,
  λ r other h. other h.number,
  λ r other h. other (ap shown h.holds),
)

-- ---- a rewrite

-- a row of its own: refused; any other row or convention afterwards, be it the state untouched
pub of_rewrite
    : ((r : Change Party) → (number_in r.result ≡ 0 → ⊥) → Resettles 1 (on 0 0) (sound 2) r → ⊥)
    × ((r : Change Party) → (shown r.state ≡ 0 ∷ 2 ∷ [] → ⊥) → Resettles 1 (on 0 0) (sound 2) r → ⊥)
unfolding refusal_of finite_state finite_settings finite_config finite_quaternion finite_vector finite_rejection fresh_of reset_of derived_of limit_of
    row_of with_row settled_of with_settings with_threshold eq ne lt le add sub mul div neg sum round units odd of_bits
of_rewrite = (λ r other h. other h.number, λ r other h. other (ap shown h.holds))

-- a shared row: any other number than 10, be it accepted or 5 for a NaN; than 4 for row 8, an unknown convention in use or one that is given
pub of_shared
    : ((r : Change Party) → (number_in r.result ≡ 10 → ⊥) → Resettles 0 (on 0 0) (sound 2) r → ⊥)
    × ((r : Change Party) → (number_in r.result ≡ 10 → ⊥) → Resettles 0 (on 0 0) (broken 2) r → ⊥)
    × ((r : Change Party) → (number_in r.result ≡ 4 → ⊥) → Resettles 8 (on 8 0) (sound 2) r → ⊥)
    × ((r : Change Party) → (number_in r.result ≡ 4 → ⊥) → Resettles 0 (on 0 3) (sound 2) r → ⊥)
    × ((r : Change Party) → (number_in r.result ≡ 4 → ⊥) → Resettles 0 (on 0 0) (sound 3) r → ⊥)
unfolding refusal_of finite_state finite_settings finite_config finite_quaternion finite_vector finite_rejection fresh_of reset_of derived_of limit_of
    row_of with_row settled_of with_settings with_threshold eq ne lt le add sub mul div neg sum round units odd of_bits
of_shared = (
  λ r other h. other h.number,
  λ r other h. other h.number,
  λ r other h. other h.number,
  λ r other h. other h.number,
  λ r other h. other h.number,
)

-- of `rewrite_lent`: any other rows afterwards than with the first anew, be it left as it was, with the settings that the party had, or another row written;
-- any other party; and a second one, of other settings, that leaves what the first did
pub of_rewrite_lent
    : ((t : Table) (r : Change Party) → (held t ≡ 2 ∷ 1 ∷ 2 ∷ 3 ∷ 2 ∷ 0 ∷ 0 ∷ 0 ∷ [] → ⊥) → Rewrites table 1 (on 0 1) (sound 2) t r → ⊥)
    × ((t : Table) (r : Change Party) → (shown r.state ≡ 0 ∷ 2 ∷ [] → ⊥) → Rewrites table 1 (on 0 1) (sound 2) t r → ⊥)
    × ((t : Table) (r : Change Party) → (held t ≡ 1 ∷ 1 ∷ 2 ∷ 3 ∷ 2 ∷ 0 ∷ 0 ∷ 0 ∷ [] → ⊥)
    → Rewrites (with_row table 0 (sound 2)) 1 (settled_of (on 0 1) (sound 2) 0) (sound 1) t r → ⊥)
unfolding refusal_of finite_state finite_settings finite_config finite_quaternion finite_vector finite_rejection fresh_of reset_of derived_of limit_of
    row_of with_row settled_of with_settings with_threshold eq ne lt le add sub mul div neg sum round units odd of_bits
of_rewrite_lent = (
  λ t r other h. other (ap held h.table),
  λ t r other h. other (ap shown h.settled.holds),
  λ t r other h. other (ap held h.table),
)

-- of one that is refused, with 10 or 5: any other rows than before; accepted where the row is shared
pub of_refused_rewrite_lent
    : ((t : Table) (r : Change Party) → (held t ≡ held table → ⊥) → Rewrites table 0 (on 0 0) (sound 2) t r → ⊥)
    × ((t : Table) (r : Change Party) → (held t ≡ held table → ⊥) → Rewrites table 1 (on 0 0) (broken 2) t r → ⊥)
    × ((t : Table) (r : Change Party) → (number_in r.result ≡ 10 → ⊥) → Rewrites table 0 (on 0 0) (sound 2) t r → ⊥)
unfolding refusal_of finite_state finite_settings finite_config finite_quaternion finite_vector finite_rejection fresh_of reset_of derived_of limit_of
    row_of with_row settled_of with_settings with_threshold eq ne lt le add sub mul div neg sum round units odd of_bits
of_refused_rewrite_lent = (
  λ t r other h. other (ap held h.table),
  λ t r other h. other (ap held h.table),
  λ t r other h. other h.settled.number,
)

-- ---- the foot

-- the first party with a convention of 0 and the second with 1, on the rows given
abbrev standing : ℕ → ℕ → Foot
standing row other = record { first = on row 0; second = on other 1 }

abbrev both : Foot → List ℕ
both f = shown f.first ++ shown f.second

-- any other side, be it the same again
pub of_other : ((s : Side) → (s ≡ Second → ⊥) → s ≡ other First → ⊥) × ((s : Side) → (s ≡ First → ⊥) → s ≡ other Second → ⊥)
of_other = (λ s wrong h. wrong h, λ s wrong h. wrong h)

-- the other party in its place
pub of_party
    : ((p : Party) → (shown p ≡ 0 ∷ 0 ∷ [] → ⊥) → p ≡ party_of First (standing 0 1) → ⊥)
    × ((p : Party) → (shown p ≡ 1 ∷ 1 ∷ [] → ⊥) → p ≡ party_of Second (standing 0 1) → ⊥)
unfolding fresh_of
of_party = (λ p other h. other (ap shown h), λ p other h. other (ap shown h))

-- any other parties than the one with the filter on its old row, be it on the row that the filter came from, and the other as it was
pub of_with_filter
    : ((f : Foot) → (both f ≡ 0 ∷ 2 ∷ 1 ∷ 1 ∷ [] → ⊥) → f ≡ with_filter First (on 5 2).filter (standing 0 1) → ⊥)
    × ((f : Foot) → (both f ≡ 0 ∷ 0 ∷ 1 ∷ 2 ∷ [] → ⊥) → f ≡ with_filter Second (on 5 2).filter (standing 0 1) → ⊥)
unfolding fresh_of
of_with_filter = (λ f other h. other (ap both h), λ f other h. other (ap both h))

-- of `Foot::choose` and of `choose_owned`, whose promise is the same: any other parties than the one on row 2 and the other as it was, be it both moved, the
-- other's row read or the foot untouched; the other's own row refused; any other parties than before where row 8 is refused
pub of_foot_choice
    : ((g : Change Foot) → (both g.state ≡ 2 ∷ 2 ∷ 1 ∷ 1 ∷ [] → ⊥) → FootChooses table (standing 0 1) First 2 g → ⊥)
    × ((g : Change Foot) → (both g.state ≡ 0 ∷ 0 ∷ 0 ∷ 0 ∷ [] → ⊥) → FootChooses table (standing 0 1) Second 0 g → ⊥)
    × ((g : Change Foot) → (both g.state ≡ 0 ∷ 0 ∷ 1 ∷ 1 ∷ [] → ⊥) → FootChooses table (standing 0 1) Second 8 g → ⊥)
unfolding refusal_of finite_state finite_settings finite_config finite_quaternion finite_vector finite_rejection fresh_of reset_of derived_of limit_of
    row_of with_row settled_of with_settings with_threshold eq ne lt le add sub mul div neg sum round units odd of_bits
of_foot_choice = (
  λ g other h. other (ap both h.holds),
  λ g other h. other (ap both h.holds),
  λ g other h. other (ap both h.holds),
)

-- of `Foot::rewrite` and of `rewrite_owned`: any other parties, and any other rows, than with the second's own anew, be it the first's that was written
pub of_foot_rewrite
    : ((t : Table) (g : Change Foot) → (both g.state ≡ 0 ∷ 0 ∷ 1 ∷ 2 ∷ [] → ⊥) → FootRewrites table (standing 0 1) Second (sound 2) t g → ⊥)
    × ((t : Table) (g : Change Foot) → (held t ≡ 0 ∷ 2 ∷ 2 ∷ 3 ∷ 2 ∷ 0 ∷ 0 ∷ 0 ∷ [] → ⊥) → FootRewrites table (standing 0 1) Second (sound 2) t g → ⊥)
unfolding refusal_of finite_state finite_settings finite_config finite_quaternion finite_vector finite_rejection fresh_of reset_of derived_of limit_of
    row_of with_row settled_of with_settings with_threshold eq ne lt le add sub mul div neg sum round units odd of_bits
of_foot_rewrite = (λ t g other h. other (ap both h.settled.holds), λ t g other h. other (ap held h.table))

-- where both use row 1: any other number than 10 on either side; any other rows than before
pub of_foot_shared
    : ((t : Table) (g : Change Foot) → (number_in g.result ≡ 10 → ⊥) → FootRewrites table (standing 1 1) First (sound 2) t g → ⊥)
    × ((t : Table) (g : Change Foot) → (number_in g.result ≡ 10 → ⊥) → FootRewrites table (standing 1 1) Second (sound 2) t g → ⊥)
    × ((t : Table) (g : Change Foot) → (held t ≡ held table → ⊥) → FootRewrites table (standing 1 1) First (sound 2) t g → ⊥)
unfolding refusal_of finite_state finite_settings finite_config finite_quaternion finite_vector finite_rejection fresh_of reset_of derived_of limit_of
    row_of with_row settled_of with_settings with_threshold eq ne lt le add sub mul div neg sum round units odd of_bits
of_foot_shared = (
  λ t g other h. other h.settled.number,
  λ t g other h. other h.settled.number,
  λ t g other h. other (ap held h.table),
)
