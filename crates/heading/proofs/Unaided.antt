-- What an update with no magnetometer promises, from what its halves gave: the second, a heading of 0 on the new state, can only give 7. Assumes nothing.
use Prim.Native.Nat.{ℕ, zero, suc}
use mathlib.Core.Path.{◌≡◌, refl, sym, ap, subst, ◌∙◌}
use mathlib.Core.Bool.{Bool, true, false, not, cond}
use lib.Ieee.{of_bits, neg, le, eq, lt}
use Rattle.number.specs.Float32 as float
use Rattle.std.specs.Prelude.{is_err}
use Rattle.std.specs.declared.result.Result.{Result}
use Rattle.std.specs.declared.result.Result.TheVariants.{Ok, Err}
use Rattle.answer.specs.declared.Answer.TheVariants.{Refused}
use Rattle.answer.specs.declared.change.Change.{Change}
use Rattle.answer.specs.declared.change.Reading.{Reading}
use Rattle.answer.specs.declared.refusal.Refusal.{Refusal}
use Rattle.answer.specs.Refusals.{refusal_of, accepted}
use Rattle.answer.specs.Answers.{number_of}
use Rattle.answer.specs.Rows.{row_of, refusal_at, number_in}
use Rattle.answer.proofs.Answering.{passes, all_pass, is_new, unmoved, moved}
use Rattle.answer.proofs.Joined.{refused_first}
use Rattle.vector.specs.declared.Vector.{Vector}
use Rattle.vector.specs.Vectors.{zero_vector}
use Rattle.settings.specs.Config.{known_convention}
use Rattle.settings.specs.Axes.{any_of, over_of}
use Rattle.ahrs.specs.declared.Ahrs.{Ahrs}
use Rattle.ahrs.specs.Filter.{finite_state, soft_restarted_of, overrange_of, updated_of}
use Rattle.ahrs.specs.Calls.{update_checks, oriented_of, Updates}
use Rattle.heading.specs.Calls.{given_checks, with_heading, set_checks, SetsHeading, unaided_of, northed_of, unaided_checks, UpdatesUnaided}
use Rattle.heading.proofs.Given.{ok_number, err_number, after_given, what_is_taken, after_update}

-- an update keeps the settings
same_settings : (s : Ahrs) (g a m : Vector) → (updated_of s g a m).settings ≡ s.settings
unfolding updated_of overrange_of
same_settings s g a m = go (any_of (over_of s.config g))
  where
    go : (b : Bool) → (cond b (soft_restarted_of s (over_of s.config g)) s).settings ≡ s.settings
    go true = refl
    go false = refl

zero_given : (n : Ahrs) → known_convention n.settings ≡ true → finite_state n ≡ true → refusal_of (given_checks n true float.zero) ≡ 0
unfolding of_bits neg le lt eq
zero_given n k f = passes 4 _ (ap not k) ∙ passes 5 _ (ap not f) ∙ passes 5 _ refl ∙ passes 6 _ refl ∙ all_pass

-- r is what the first half gives, v the result that its answer is, and d whether that is a refusal
module _ (s : Ahrs) (g a : Vector) {r : Reading Ahrs} (p : Updates s g a zero_vector r)
    (v : Result (Unit {0}) Refusal) (result : number_in v ≡ number_of r.answer) {d : Bool} (failed : d ≡ is_err v) where
  number_is : number_in v ≡ refusal_of (update_checks s g a zero_vector)
  number_is = result ∙ p.answer.number

  pub unaided_refused : d ≡ true → UpdatesUnaided s g a r
  unaided_refused h = subst (UpdatesUnaided s g a) (λ i. record { state = sym same i; answer = sym is_refused i }) (unmoved _ _ refl _ _ e number)
    where
      no : refusal_of (update_checks s g a zero_vector) ≡ 0 → ⊥
      no z = err_number v (sym failed ∙ h) (number_is ∙ z)

      e : Refusal
      e = refusal_at (refusal_of (update_checks s g a zero_vector))

      else : {A : Type 0} (k : ℕ) (new old : A) → (k ≡ 0 → ⊥) → accepted k new old ≡ old
      else zero new old f = absurd (f refl)
      else (suc k) new old f = refl

      same : r.state ≡ s
      same = p.state ∙ else _ _ _ no

      is_refused : r.answer ≡ Refused e
      is_refused = p.answer.exact ∙ else _ _ _ no

      number : row_of e ≡ refusal_of (unaided_checks s g a)
      number = ap number_of (sym is_refused) ∙ p.answer.number ∙ sym (refused_first (update_checks s g a zero_vector) _ no)

  module _ (h : d ≡ false) where
    no_number : refusal_of (update_checks s g a zero_vector) ≡ 0
    no_number = sym number_is ∙ ok_number v (sym failed ∙ h)

    next_is : r.state ≡ unaided_of s g a
    next_is = is_new _ _ p.state no_number

    startup_is : {b : Bool} → r.state.startup ≡ b → (unaided_of s g a).startup ≡ b
    startup_is t = ap (λ (n : Ahrs). n.startup) (sym next_is) ∙ t

    pub startup_over : r.state.startup ≡ false → UpdatesUnaided s g a r
    startup_over t =
        moved _ _ refl _ _ (sym (after_update s g a zero_vector no_number _ ∙ passes 7 _ (rw (startup_is t)) ∙ all_pass))
        (next_is ∙ rw (startup_is t)) (is_new _ _ p.answer.exact no_number ∙ rw (startup_is t))

    -- c is what the second half gives
    module _ (t : r.state.startup ≡ true) (c : Change Ahrs) (set : SetsHeading r.state float.zero c) where
      second_is : number_in c.result ≡ refusal_of (unaided_checks s g a)
      second_is =
          let taken = what_is_taken s g a zero_vector no_number in
          let given = zero_given (unaided_of s g a) (ap known_convention (same_settings s g a zero_vector) ∙ taken.known) taken.next in
          set.number ∙ ap (λ (n : Ahrs). refusal_of (set_checks n float.zero)) next_is ∙ after_given (unaided_of s g a) true float.zero given _
          ∙ sym (after_update s g a zero_vector no_number _ ∙ rw (startup_is t))

      pub second_refused : {e : Refusal} → c.result ≡ Err e → UpdatesUnaided s g a (record { state = s; answer = Refused e })
      second_refused {e} f = unmoved _ _ refl _ _ e (ap number_in (sym f) ∙ second_is)

      pub north_set : {u : Unit {0}} → c.result ≡ Ok u → UpdatesUnaided s g a (record { state = c.state; answer = oriented_of c.state.quaternion })
      north_set f = moved _ _ refl _ _ (ap number_in (sym f) ∙ second_is) north (ap (λ (n : Ahrs). oriented_of n.quaternion) north)
        where
          north : c.state ≡ northed_of (unaided_of s g a)
          north = is_new _ _ set.holds (sym set.number ∙ ap number_in f) ∙ ap (λ (n : Ahrs). with_heading n float.zero) next_is ∙ rw (startup_is t)
