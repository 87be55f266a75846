-- The promise of a machine that is fed: refused, accepted, what is printed stands within the slice, and it has one result. Assumes nothing.
use Prim.Native.Nat.{ℕ, zero, suc, ◌+◌, ◌-◌, ◌≤◌}
use native.Mathlib.Omega.{arith}
use mathlib.Core.Path.{◌≡◌, ap, sym, ◌∙◌}
use mathlib.Core.List.{List}
use lib.ListN.{length, drop, length-append, length-drop}
use Rattle.answer.specs.Refusals.{Check, refusal_of, accepted}
use Rattle.text.specs.Putting.{over, Puts, Feeds, FedOnce}

pub longer : (text old : List ℕ) → length (over text old) ≡ length text + (length old - length text)
unfolding over
longer text old = length-append text (drop (length text) old) ∙ ap (λ (k : ℕ). length text + k) (length-drop (length text) old)

module _ {S : Type 0} (cs : List Check) (before new : S) (text old : List ℕ) where
  pub refused : (k : ℕ) → refusal_of cs ≡ suc k → Feeds cs before new text old old before 0 (suc k)
  refused k e =
      record {
        number = sym e;
        state = ap (λ (j : ℕ). accepted j new before) (sym e);
        count = ap (λ (j : ℕ). accepted j (length text) 0) (sym e);
        holds = ap (λ (j : ℕ). accepted j (over text old) old) (sym e);
      }

  pub fed : {after : List ℕ} {now : S} {n k : ℕ} → refusal_of cs ≡ 0 → k ≡ 0 → now ≡ new → Puts text old after n
      → Feeds cs before new text old after now n k
  fed e z f p =
      record {
        number = z ∙ sym e;
        state = f ∙ ap (λ (j : ℕ). accepted j new before) (sym e);
        count = p.count ∙ ap (λ (j : ℕ). accepted j (length text) 0) (sym e);
        holds = p.holds ∙ ap (λ (j : ℕ). accepted j (over text old) old) (sym e);
      }

  -- what is to be printed stands in the slice
  pub within : {after : List ℕ} {now : S} {n k : ℕ} → Feeds cs before new text old after now n k → length after ≡ length old → n ≤ length after
  within {after} {now} {n} f same = go (refusal_of cs) f.count f.holds
    where
      go : (k : ℕ) → n ≡ accepted k (length text) 0 → after ≡ accepted k (over text old) old → n ≤ length after
      go zero c h = omega (arith, ap length h ∙ longer text old)
      go (suc k) c h = omega arith

pub fed_once : FedOnce
fed_once S cs before new text old after also now now' n n' k k' p q =
    (p.state ∙ sym q.state, p.count ∙ sym q.count, p.number ∙ sym q.number, p.holds ∙ sym q.holds)
