-- What the returns of a call have to show, from the number of its checks: the refusal and nothing changed, or the answer and the new state. Assumes nothing.
use Prim.Native.Nat.{ℕ, zero, suc, ◌≤◌}
use mathlib.Core.Path.{◌≡◌, refl, sym, ap, subst, ◌∙◌}
use native.Mathlib.Omega.{arith}
use mathlib.Core.Bool.{Bool, true, false, not}
use mathlib.Core.List.{List, [], ◌∷◌}
use Rattle.answer.specs.declared.Answer.{Answer}
use Rattle.answer.specs.declared.Answer.TheVariants.{Refused}
use Rattle.answer.specs.declared.change.Change.{Change}
use Rattle.answer.specs.declared.change.Reading.{Reading}
use Rattle.answer.specs.declared.refusal.Refusal.{Refusal}
use Rattle.answer.specs.declared.refusal.Refusal.TheVariants.{Length, Mark, Version, Unknown, NotFinite, OutOfRange, Overflow, Sequence, Norm, Shared, TooMany}
use Rattle.std.specs.declared.result.Result.{Result}
use Rattle.std.specs.declared.result.Result.TheVariants.{Ok, Err}
use Rattle.answer.specs.Refusals.{Check, check, refusal_of, accepted}
use Rattle.answer.specs.Said.{Said, refusal, number_said, values_said}
use Rattle.answer.specs.Rows.{row_of, refusal_at, number_in, result_said}
use Rattle.answer.specs.Answers.{number_of, values_of, answer_said, refused}
use Rattle.answer.specs.Promises.{Answered, Answers, Results, Changed, Moved, One, OnlyOne}

-- ---- which check fails

pub fails : (n : ℕ) {b : Bool} (cs : List Check) → b ≡ true → refusal_of (check n b ∷ cs) ≡ n
unfolding refusal_of
fails n cs e = rw e

pub passes : (n : ℕ) {b : Bool} (cs : List Check) → b ≡ false → refusal_of (check n b ∷ cs) ≡ refusal_of cs
unfolding refusal_of
passes n cs e = rw e

pub all_pass : refusal_of [] ≡ 0
unfolding refusal_of
all_pass = refl

-- checks that give no number: the first does not fail, and neither do the others
pub passed : (k : ℕ) (p : Bool) (cs : List Check) → refusal_of (check (suc k) (not p) ∷ cs) ≡ 0 → (p ≡ true) × (refusal_of cs ≡ 0)
unfolding refusal_of
passed k true cs e = (refl, e)
passed k false cs e = absurd (omega arith)

pub unfailed : (k : ℕ) (b : Bool) (cs : List Check) → refusal_of (check (suc k) b ∷ cs) ≡ 0 → (b ≡ false) × (refusal_of cs ≡ 0)
unfolding refusal_of
unfailed k true cs e = absurd (omega arith)
unfailed k false cs e = (refl, e)

-- ---- a refusal's number, and the refusal of a number

pub at_row : (e : Refusal) → refusal_at (row_of e) ≡ e
at_row Length = refl
at_row Mark = refl
at_row Version = refl
at_row Unknown = refl
at_row NotFinite = refl
at_row OutOfRange = refl
at_row Overflow = refl
at_row Sequence = refl
at_row Norm = refl
at_row Shared = refl
at_row TooMany = refl

pub is_row : (e : Refusal) → row_of e ≡ 0 → ⊥
is_row e h = absurd (go e h)
  where
    go : (e : Refusal) → row_of e ≡ 0 → ⊥
    go Length h = omega arith
    go Mark h = omega arith
    go Version h = omega arith
    go Unknown h = omega arith
    go NotFinite h = omega arith
    go OutOfRange h = omega arith
    go Overflow h = omega arith
    go Sequence h = omega arith
    go Norm h = omega arith
    go Shared h = omega arith
    go TooMany h = omega arith

-- each number from 1 to 11 is a row's
has_row : (k : ℕ) → k ≤ 11 → (k ≡ 0 → ⊥) → row_of (refusal_at k) ≡ k
has_row zero l h = absurd (h refl)
has_row (suc zero) l h = refl
has_row (suc (suc zero)) l h = refl
has_row (suc (suc (suc zero))) l h = refl
has_row (suc (suc (suc (suc zero)))) l h = refl
has_row (suc (suc (suc (suc (suc zero))))) l h = refl
has_row (suc (suc (suc (suc (suc (suc zero)))))) l h = refl
has_row (suc (suc (suc (suc (suc (suc (suc zero))))))) l h = refl
has_row (suc (suc (suc (suc (suc (suc (suc (suc zero)))))))) l h = refl
has_row (suc (suc (suc (suc (suc (suc (suc (suc (suc zero))))))))) l h = refl
has_row (suc (suc (suc (suc (suc (suc (suc (suc (suc (suc zero)))))))))) l h = refl
has_row (suc (suc (suc (suc (suc (suc (suc (suc (suc (suc (suc k))))))))))) l h = omega arith

-- a result that gives nothing is known by its number
pub same_result : (r s : Result (Unit {0}) Refusal) → number_in r ≡ number_in s → r ≡ s
same_result (Ok u) (Ok v) h = refl
same_result (Ok u) (Err e) h = absurd (is_row e (sym h))
same_result (Err e) (Ok v) h = absurd (is_row e h)
same_result (Err e) (Err f) h = ap Err (sym (at_row e) ∙ ap refusal_at h ∙ at_row f)

-- ---- a call that answers, of any type of answers

module _ {A B : Type 0} (said : A → Said B) (refused : ℕ → A) (cs : List Check) (a : A) (z : number_said (said a) ≡ 0) where
  -- it is enough that the refusal of the number that the checks give says that number and nothing else
  by_number : (k : ℕ) → refusal_of cs ≡ k → ((k ≡ 0 → ⊥) → said (refused k) ≡ refusal k) → Answered said refused cs a (accepted k a (refused k))
  by_number zero e b =
      record {
        exact = ap (λ (n : ℕ). accepted n a (refused n)) (sym e);
        number = z ∙ sym e;
        values = ap (λ (n : ℕ). accepted n (values_said (said a)) []) (sym e);
      }
  by_number (suc k) e b =
      let says = b (λ h. omega arith) in
      record {
        exact = ap (λ (n : ℕ). accepted n a (refused n)) (sym e);
        number = ap number_said says ∙ sym e;
        values = ap values_said says ∙ ap (λ (n : ℕ). accepted n (values_said (said a)) []) (sym e);
      }

  pub gives_by : 0 ≡ refusal_of cs → {r : A} → r ≡ a → Answered said refused cs a r
  gives_by e f = subst (λ (x : A). Answered said refused cs a x) (sym f) (by_number 0 (sym e) (λ h. absurd (h refl)))

-- where every number has a refusal that carries it alone
module _ {A B : Type 0} (said : A → Said B) (refused : ℕ → A) (bare : (n : ℕ) → said (refused n) ≡ refusal n)
    (cs : List Check) (a : A) (z : number_said (said a) ≡ 0) where
  pub answered : (k : ℕ) → refusal_of cs ≡ k → Answered said refused cs a (accepted k a (refused k))
  answered k e = by_number said refused cs a z k e (λ h. bare k)

-- where every row has
module _ {A B : Type 0} (said : A → Said B) (refused : ℕ → A) (bare : (e : Refusal) → said (refused (row_of e)) ≡ refusal (row_of e))
    (cs : List Check) (a : A) (z : number_said (said a) ≡ 0) where
  pub refuses_by : (e : Refusal) → row_of e ≡ refusal_of cs → {r : A} → r ≡ refused (row_of e) → Answered said refused cs a r
  refuses_by e n {r} f = subst (λ (x : A). Answered said refused cs a x) (sym f) (go (row_of e) n (is_row e) (bare e))
    where
      go : (k : ℕ) → k ≡ refusal_of cs → (k ≡ 0 → ⊥) → said (refused k) ≡ refusal k → Answered said refused cs a (refused k)
      go zero p g b = absurd (g refl)
      go (suc k) p g b = by_number said refused cs a z (suc k) (sym p) (λ h. b)

-- ---- a result

module _ {A B : Type 0} (vals : A → List B) (cs : List Check) (a : A) where
  result_refused : ℕ → Result A Refusal
  result_refused n = Err (refusal_at n)

  pub refuses_result : (e : Refusal) → row_of e ≡ refusal_of cs → Results vals cs a (Err e)
  refuses_result e n =
      refuses_by (result_said vals) (λ k. Err (refusal_at k)) (λ f. ap refusal (ap row_of (at_row f))) cs (Ok a) refl e n (ap Err (sym (at_row e)))

  pub gives_result : 0 ≡ refusal_of cs → {r : Result A Refusal} → r ≡ Ok a → Results vals cs a r
  gives_result = gives_by (result_said vals) (λ k. Err (refusal_at k)) cs (Ok a) refl

-- ---- an `Answer`

module _ (cs : List Check) (a : Answer) (z : number_of a ≡ 0) where
  pub refuses : (e : Refusal) → row_of e ≡ refusal_of cs → Answers cs a (Refused e)
  refuses e n = refuses_by answer_said refused (λ f. ap refusal (ap row_of (at_row f))) cs a z e n (ap Refused (sym (at_row e)))

  pub gives : 0 ≡ refusal_of cs → {r : Answer} → r ≡ a → Answers cs a r
  gives = gives_by answer_said refused cs a z

-- an `Answer` that is what the checks say, and has their number, is one by them: the promise says both, so that less is not enough
pub answers_by_number : (cs : List Check) (a r : Answer) → number_of r ≡ refusal_of cs → r ≡ accepted (refusal_of cs) a (refused (refusal_of cs))
    → Answers cs a r
answers_by_number cs a r n e = record { exact = e; number = n; values = go (refusal_of cs) e }
  where
    go : (k : ℕ) → r ≡ accepted k a (refused k) → values_of r ≡ accepted k (values_of a) []
    go zero f = ap values_of f
    go (suc k) f = ap values_of f

-- one that is what the checks say is one by them, where they give 0 or a row's number: no answer carries another
pub answers : (cs : List Check) (a r : Answer) → number_of a ≡ 0 → refusal_of cs ≤ 11 → r ≡ accepted (refusal_of cs) a (refused (refusal_of cs))
    → Answers cs a r
answers cs a r z l e =
    subst
    (λ (x : Answer). Answers cs a x)
    (sym e)
    (by_number answer_said refused cs a z (refusal_of cs) refl (λ h. ap refusal (has_row (refusal_of cs) l h)))

-- ---- a call that changes something

module _ {S : Type 0} (cs : List Check) (new old : S) {n : ℕ} (e : n ≡ refusal_of cs) where
  state_of : {k : ℕ} → n ≡ k → accepted k new old ≡ accepted (refusal_of cs) new old
  state_of h = ap (λ (k : ℕ). accepted k new old) (sym h ∙ e)

  -- what is refused leaves it as it was
  old_stays : (n ≡ 0 → ⊥) → old ≡ accepted (refusal_of cs) new old
  old_stays h = go n refl
    where
      go : (k : ℕ) → n ≡ k → old ≡ accepted (refusal_of cs) new old
      go zero p = absurd (h p)
      go (suc k) p = state_of p

  pub stays : (n ≡ 0 → ⊥) → Changed cs new old old n
  stays h = record { number = e; holds = old_stays h }

  pub becomes : n ≡ 0 → {now : S} → now ≡ new → Changed cs new old now 0
  becomes h f = record { number = sym h ∙ e; holds = f ∙ state_of h }

  pub refuses_change : (e : Refusal) → n ≡ row_of e → Changed cs new old old n
  refuses_change e h = stays (λ z. is_row e (sym h ∙ z))

-- what a call that is not refused leaves
pub is_new : {A : Type 0} {k : ℕ} (new old : A) {left : A} → left ≡ accepted k new old → k ≡ 0 → left ≡ new
is_new new old e z = e ∙ ap (λ (k : ℕ). accepted k new old) z

-- and one that is refused
pub is_old : {S : Type 0} (cs : List Check) (new old : S) {now : S} {n : ℕ} → Changed cs new old now n → (n ≡ 0 → ⊥) → now ≡ old
is_old cs new old c h = c.holds ∙ sym (old_stays cs new old c.number h)

-- ---- a change that is made again

-- where it is accepted again and then changes nothing more, twice equals once
module _ {S : Type 0} (checks : S → List Check) (make : S → S)
    (again : (s : S) → refusal_of (checks s) ≡ 0 → refusal_of (checks (make s)) ≡ 0) (same : (s : S) → make (make s) ≡ make s) where
  pub twice : (s first second : S) (n k : ℕ) → Changed (checks s) (make s) s first n → Changed (checks first) (make first) first second k
      → (second ≡ first) × (k ≡ n)
  twice s first second n k p q = let a = go (refusal_of (checks s)) refl p.holds in (q.holds ∙ a.0, q.number ∙ a.1 ∙ sym p.number)
    where
      numbers : {x y : S} → x ≡ y → refusal_of (checks x) ≡ refusal_of (checks y)
      numbers e = ap (λ (x : S). refusal_of (checks x)) e

      -- j is the number of the first
      go : (j : ℕ) → refusal_of (checks s) ≡ j → first ≡ accepted j (make s) s
          → (accepted (refusal_of (checks first)) (make first) first ≡ first) × (refusal_of (checks first) ≡ j)
      go zero e f = let z = numbers f ∙ again s e in (is_new (make first) first refl z ∙ ap make f ∙ same s ∙ sym f, z)
      go (suc j) e f = let z = numbers f ∙ e in (ap (λ (i : ℕ). accepted i (make first) first) z, z)

-- ---- a call that answers and changes the state

module _ {S : Type 0} (cs : List Check) (a : Answer) (z : number_of a ≡ 0) (new old : S) where
  pub unmoved : (e : Refusal) → row_of e ≡ refusal_of cs → Moved cs a new old old (Refused e)
  unmoved e n = record { answer = refuses cs a z e n; state = old_stays cs new old n (is_row e) }

  pub moved : 0 ≡ refusal_of cs → {now : S} {r : Answer} → now ≡ new → r ≡ a → Moved cs a new old now r
  moved e f g = record { answer = gives cs a z e g; state = f ∙ ap (λ (k : ℕ). accepted k new old) e }

-- ---- a promise has one result

pub only_one : OnlyOne
only_one =
    record {
      answered = λ said refused cs a r s p q. p.exact ∙ sym q.exact;
      changed = λ cs new old now also r s p q. (p.number ∙ sym q.number, p.holds ∙ sym q.holds);
      moved = λ cs a new old now also r s p q. (p.answer.exact ∙ sym q.answer.exact, p.state ∙ sym q.state);
    }

-- so has a change, whatever the state
pub one_change : {S : Type 0} (cs : List Check) (new old : S) → One (λ (r : Change S). Changed cs new old r.state (number_in r.result))
one_change cs new old r s p q =
    let (number, state) = only_one.changed cs new old r.state s.state (number_in r.result) (number_in s.result) p q in
    λ i. record { state = state i; result = same_result r.result s.result number i }

-- and a reading
pub one_reading : {S : Type 0} (cs : List Check) (a : Answer) (new old : S) → One (λ (r : Reading S). Moved cs a new old r.state r.answer)
one_reading cs a new old r s p q =
    let (answer, state) = only_one.moved cs a new old r.state s.state r.answer s.answer p q in
    λ i. record { state = state i; answer = answer i }
