-- A party's change in the foot: what it promises of the party is promised of the foot, and the other party is as it was. Assumes nothing.
use Prim.Native.Nat.{ℕ, zero, suc}
use mathlib.Core.Path.{◌≡◌, refl, ap, ◌∙◌}
use mathlib.Core.List.{List}
use Rattle.answer.specs.declared.change.Change.{Change}
use Rattle.answer.specs.Refusals.{Check, refusal_of, accepted}
use Rattle.answer.specs.Rows.{number_in}
use Rattle.answer.specs.Promises.{Changed}
use Rattle.settings.specs.declared.Settings.{Settings}
use Rattle.table.specs.declared.Table.{Table}
use Rattle.table.specs.declared.Party.{Party}
use Rattle.table.specs.declared.foot.Foot.{Foot}
use Rattle.table.specs.declared.foot.Side.{Side}
use Rattle.table.specs.declared.foot.Side.TheVariants.{First, Second}
use Rattle.table.specs.Calls.{Rewrites}
use Rattle.table.specs.Sides.{party_of, other_row, with_party, stood_of, FootRewrites}

-- a party that is put back
put_back : (side : Side) (f : Foot) → with_party side (party_of side f) f ≡ f
put_back First f = refl
put_back Second f = refl

module _ (f : Foot) (side : Side) where
  pub in_the_foot : (n : ℕ) (new : Party) → with_party side (accepted n new (party_of side f)) f ≡ accepted n (with_party side new f) f
  in_the_foot zero new = refl
  in_the_foot (suc n) new = put_back side f

  carried
      : (cs : List Check) (new : Party) (r : Change Party) → Changed cs new (party_of side f) r.state (number_in r.result)
      → Changed cs (with_party side new f) f (stood_of side r f).state (number_in r.result)
  carried cs new r h =
      record {
        number = h.number;
        holds = ap (λ (p : Party). with_party side p f) h.holds ∙ in_the_foot (refusal_of cs) new;
      }

  -- p is what `party` gave, o what `other_row`, r the callee's answer, and g what `stood` made of it
  pub foot_rewritten
      : {p : Party} {o : ℕ} {r : Change Party} {g : Change Foot} (t t' : Table) (s : Settings)
      → p ≡ party_of side f → o ≡ other_row side f → g ≡ stood_of side r f → Rewrites t o p s t' r → FootRewrites t f side s t' g
  foot_rewritten t t' s e z is h =
      let k = rw (e, z) at h in
      rw is (record { settled = carried _ _ _ k.settled; table = k.table })
