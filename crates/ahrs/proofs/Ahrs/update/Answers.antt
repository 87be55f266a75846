-- `ahrs::Ahrs::update` meets its contract: by the number of its checks, which is 0 where both tests hold, and only there.
use mathlib.Core.Path.{◌≡◌, refl, sym, ap, subst}
use Rattle.answer.proofs.Answering.{fails, unmoved, moved}
use Rattle.answer.proofs.Tests.{one, two}
use Rattle.ahrs.specs.declared.Ahrs.{Ahrs}
use Rattle.answer.specs.declared.Answer.TheVariants.{Refused}
use Rattle.answer.specs.declared.change.Reading.{Reading}
use Rattle.answer.specs.declared.refusal.Refusal.{Refusal}
use Rattle.answer.specs.Rows.{row_of}
use Rattle.answer.specs.Refusals.{refusal_of}
use Rattle.vector.specs.declared.Vector.{Vector}
use Rattle.ahrs.specs.Calls.{update_checks, oriented_of, Updates}
use Rattle.ahrs.proofs.Updating.{refused, accepted}
use Rattle.std.proofs.Common.{not}
use Rattle.answer.specs.declared.refusal.Refusal.TheVariants.{Unknown}
use Rattle.ahrs.proofs.Ahrs.update.Goals as goal

-- a refused reading that was made of the state as it was
unmoved_by
    : (s : Ahrs) (g a m : Vector) (e : Refusal) {r : Reading Ahrs} → row_of e ≡ refusal_of (update_checks s g a m)
    → r ≡ record { state = s; answer = Refused e } → Updates s g a m r
unmoved_by s g a m e n f = subst (λ (r : Reading Ahrs). Updates s g a m r) (sym f) (unmoved _ _ refl _ _ e n)

pub returns-then-not-is_known : goal.returns-then-not-is_known
returns-then-not-is_known c =
    unmoved_by _ _ _ _ Unknown (sym (fails 4 _ (one c.is_known.ensures (ap not c.if-not-is_known.true)))) c.refused.ensures

pub returns-then-not-dropped_is_finite-is_finite : goal.returns-then-not-dropped_is_finite-is_finite
returns-then-not-dropped_is_finite-is_finite c =
    let test = two c.dropped_is_finite.ensures c.is_finite.ensures (ap not c.if-not-dropped_is_finite-is_finite.true) in
    let r = refused _ _ _ _ c.update_vectors-next.ensures test in
    unmoved_by _ _ _ _ c.update_refusal-refusal.result (c.update_refusal-refusal.ensures r) c.refused-then-not-dropped_is_finite-is_finite.ensures

pub returns : goal.returns
returns c =
    let e = c.update_vectors-next.ensures in
    let test = two c.dropped_is_finite.ensures c.is_finite.ensures (ap not c.if-not-dropped_is_finite-is_finite.false) in
    let z = accepted _ _ _ _ e (one c.is_known.ensures (ap not c.if-not-is_known.false)) test in
    moved _ _ refl _ _ (sym z) e (ap (λ (s : Ahrs). oriented_of s.quaternion) e)
