-- What no check of a call refuses: a known convention, finite numbers and a heading in range; and the checks that come after them. Assumes nothing.
use mathlib.Core.Path.{◌≡◌, refl, sym, ◌∙◌}
use mathlib.Core.Bool.{Bool, true, false, ◌&&◌, true≢false}
use mathlib.Core.List.{List, [], ◌++◌}
use lib.Ieee.{Float}
use lib.Ieee.Scale.{finite}
use Rattle.std.specs.Prelude.{is_err}
use Rattle.std.specs.declared.result.Result.{Result}
use Rattle.std.specs.declared.result.Result.TheVariants.{Ok, Err}
use Rattle.answer.specs.declared.refusal.Refusal.{Refusal}
use Rattle.answer.specs.Refusals.{Check, refusal_of, ascends}
use Rattle.answer.specs.Rows.{row_of, number_in}
use Rattle.answer.proofs.Answering.{passed, is_row}
use Rattle.answer.proofs.Tests.{both}
use Rattle.answer.proofs.Joined.{refused_first, passed_first}
use Rattle.trig.specs.Degrees.{in_turn}
use Rattle.vector.specs.declared.Vector.{Vector}
use Rattle.vector.specs.Vectors.{finite_vector}
use Rattle.math.specs.declared.quaternion.Quaternion.{Quaternion}
use Rattle.settings.specs.Config.{known_convention}
use Rattle.ahrs.specs.declared.Ahrs.{Ahrs}
use Rattle.ahrs.specs.Filter.{finite_state, updated_of}
use Rattle.ahrs.specs.Calls.{state_checks, update_checks, QuaternionReads}
use Rattle.heading.specs.Calls.{heading_checks, given_checks}

-- ---- a result has a number exactly where it is a refusal

pub number_ok : (v : Result (Unit {0}) Refusal) → number_in v ≡ 0 → is_err v ≡ false
number_ok (Ok u) z = refl
number_ok (Err e) z = absurd (is_row e z)

pub ok_number : (v : Result (Unit {0}) Refusal) → is_err v ≡ false → number_in v ≡ 0
ok_number (Ok u) h = refl
ok_number (Err e) h = absurd (true≢false h)

pub err_number : (v : Result (Unit {0}) Refusal) → is_err v ≡ true → number_in v ≡ 0 → ⊥
err_number v h z = true≢false (sym h ∙ number_ok v z)

-- ---- what no check of a heading refuses

pub record Given (s : Ahrs) (given : Bool) (heading : Float) : Type 0 where
  pub known : known_convention s.settings ≡ true
  pub state : finite_state s ≡ true
  pub readings : given ≡ true
  pub number : finite heading ≡ true
  pub in_range : in_turn heading ≡ true

module _ (s : Ahrs) (given : Bool) (heading : Float) (e : refusal_of (given_checks s given heading) ≡ 0) where
  pub what_is_given : Given s given heading
  what_is_given =
      let k = passed 3 (known_convention s.settings) _ e in
      let f = passed 4 (finite_state s) _ k.1 in
      let g = passed 4 (given && finite heading) _ f.1 in
      let (readings, number) = both given (finite heading) g.0 in
      record { known = k.0; state = f.0; readings = readings; number = number; in_range = (passed 5 (in_turn heading) [] g.1).0 }

  pub after_given : (ds : List Check) → refusal_of (given_checks s given heading ++ ds) ≡ refusal_of ds
  unfolding ascends
  after_given ds = passed_first (given_checks s given heading) ds tt e

-- ---- what reading the orientation says of the state's own checks

module _ (s : Ahrs) (given : Bool) (heading : Float) where
  pub read_first : {q : Quaternion} → QuaternionReads s (Ok q) → refusal_of (heading_checks given heading) ≡ refusal_of (given_checks s given heading)
  unfolding ascends
  read_first p = sym (passed_first (state_checks s) (heading_checks given heading) tt (sym p.number))

  pub refused_read : {e : Refusal} → QuaternionReads s (Err e) → row_of e ≡ refusal_of (given_checks s given heading)
  refused_read {e} p = p.number ∙ sym (refused_first (state_checks s) (heading_checks given heading) (λ z. is_row e (p.number ∙ z)))

-- ---- what no check of an update refuses

pub record Taken (s : Ahrs) (g a m : Vector) : Type 0 where
  pub known : known_convention s.settings ≡ true
  pub given : (finite_state s && (finite_vector g && finite_vector a && finite_vector m)) ≡ true
  pub next : finite_state (updated_of s g a m) ≡ true

module _ (s : Ahrs) (g a m : Vector) (e : refusal_of (update_checks s g a m) ≡ 0) where
  pub what_is_taken : Taken s g a m
  what_is_taken =
      let k = passed 3 (known_convention s.settings) _ e in
      let f = passed 4 (finite_state s && (finite_vector g && finite_vector a && finite_vector m)) _ k.1 in
      record { known = k.0; given = f.0; next = (passed 6 (finite_state (updated_of s g a m)) [] f.1).0 }

  pub after_update : (ds : List Check) → refusal_of (update_checks s g a m ++ ds) ≡ refusal_of ds
  unfolding ascends
  after_update ds = passed_first (update_checks s g a m) ds tt e
