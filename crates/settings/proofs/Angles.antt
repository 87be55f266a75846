-- An angle from 0 to 90 stands for a squared limit that is accepted: `StandFor` holds. Assumes nothing.
use Prim.Native.Nat.{◌+◌, ◌*◌, ◌<◌}
use native.Mathlib.Omega.{arith}
use mathlib.Core.Path.{◌≡◌, refl, sym, ap, ◌∙◌}
use mathlib.Core.Bool.{Bool, true, false, not, ◌&&◌, true≢false}
use lib.Dec.{T, eqb}
use lib.Ieee.{Float, nan, inf, fin, of_bits, up, down, neg, lt, le, eq}
use lib.Ieee.Fits.{down_pos}
use lib.Ieee.Scale.{finite}
use borrow.Author.Tests.{lt-ltb, eqb-true}
use Rattle.number.proofs.Signed.{over}
use Rattle.number.specs.Float32.{zero}
use Rattle.answer.specs.Refusals.{refusal_of}
use Rattle.answer.proofs.Answering.{passes, passed, all_pass}
use Rattle.answer.proofs.Tests.{both, all_four}
use Rattle.trig.specs.Degrees.{in_turn}
use Rattle.trig.proofs.Limited.{limited}
use Rattle.settings.specs.declared.Settings.{Settings}
use Rattle.settings.specs.declared.config.Config.{Config}
use Rattle.settings.specs.declared.limit.Limit.{Limit}
use Rattle.settings.specs.declared.limit.Limit.TheVariants.{Squared, Degrees}
use Rattle.settings.specs.Limit.{right_angle, finite_limit, sound_limit}
use Rattle.settings.specs.Config.{known_convention, finite_settings, sound_settings, limit_of, derived_of, finite_config, settings_checks}
use Rattle.settings.specs.Angles.{as_squared, squared_settings, StandFor}

in_turn_lem : (x : Float) → le zero x ≡ true → le x right_angle ≡ true → T (in_turn x)
unfolding le lt eq of_bits neg
in_turn_lem nan p q = absurd (true≢false (sym p))
in_turn_lem (inf true) p q = absurd (true≢false (sym p))
in_turn_lem (inf false) p q = absurd (true≢false (sym q))
in_turn_lem (fin true m e) p q =
    let z : 0 * 1 * down e ≡ m * up e * 1 = eqb-true _ _ (both (eqb (0 * 1 * down e) (m * up e * 1)) _ p).0 in
    let i : m * up e * 1 < 360 * down e = omega (arith, down_pos e) in
    let j : 0 < m * up e * 1 + 360 * down e = omega (arith, down_pos e) in
    rw (lt-ltb _ _ i, lt-ltb _ _ j) tt
in_turn_lem (fin false m e) p q =
    let h = over (m * up e * 1) (90 * down e) q in
    let i : 0 < 360 * down e + m * up e * 1 = omega (arith, down_pos e) in
    let j : m * up e * 1 < 360 * down e = omega (arith, down_pos e) in
    rw (lt-ltb _ _ i, lt-ltb _ _ j) tt

-- of either kind
stands : (l : Limit) → finite_limit l ≡ true → sound_limit l ≡ true → (finite_limit (as_squared l) ≡ true) × (sound_limit (as_squared l) ≡ true)
stands (Squared x) f s = (f, s)
stands (Degrees x) f s =
    let (above, below) = both (le zero x) (le x right_angle) s in
    let h = limited x (in_turn_lem x above below) in
    (h.0, ap not h.1)

pub same_derived : (s : Settings) → derived_of (squared_settings s) ≡ derived_of s
unfolding derived_of limit_of
same_derived s = refl

-- two of four tests in a row, with others in their place that hold
replaced : (p x y z u v : Bool) → (p && x && y && z) ≡ true → u ≡ true → v ≡ true → (p && u && v && z) ≡ true
replaced p x y z u v e g h = let (first, _, _, last) = all_four p x y z e in rw (first, g, h, last)

module _ (s : Settings) (f : finite_settings s ≡ true) (p : sound_settings s ≡ true) where
  abbrev acceleration : Limit
  acceleration = s.acceleration_rejection

  abbrev magnetic : Limit
  magnetic = s.magnetic_rejection

  abbrev others : Bool
  others = finite s.sample_rate && finite s.gain && finite s.gyroscope_range

  abbrev above : Bool
  above = lt zero s.sample_rate

  abbrev not_below : Bool
  not_below = not (lt s.rejection_timeout zero)

  finites : (others ≡ true) × (finite_limit acceleration ≡ true) × (finite_limit magnetic ≡ true) × (finite s.rejection_timeout ≡ true)
  unfolding finite_settings
  finites = all_four others (finite_limit acceleration) (finite_limit magnetic) (finite s.rejection_timeout) f

  sounds : (above ≡ true) × (sound_limit acceleration ≡ true) × (sound_limit magnetic ≡ true) × (not_below ≡ true)
  sounds = all_four above (sound_limit acceleration) (sound_limit magnetic) not_below p

  pub finite_so : finite_settings (squared_settings s) ≡ true
  unfolding finite_settings
  finite_so =
      replaced others (finite_limit acceleration) (finite_limit magnetic) (finite s.rejection_timeout) _ _ f
      (stands acceleration finites.1 sounds.1).0 (stands magnetic finites.2 sounds.2).0

  sound_so : sound_settings (squared_settings s) ≡ true
  sound_so =
      replaced above (sound_limit acceleration) (sound_limit magnetic) not_below _ _ p
      (stands acceleration finites.1 sounds.1).1 (stands magnetic finites.2 sounds.2).1

pub accepted_so : (s : Settings) → refusal_of (settings_checks s) ≡ 0 → refusal_of (settings_checks (squared_settings s)) ≡ 0
accepted_so s e =
    let k = passed 3 (known_convention s) _ e in
    let f = passed 4 (finite_settings s) _ k.1 in
    let p = passed 5 (sound_settings s) _ f.1 in
    let c = passed 6 (finite_config (derived_of s)) _ p.1 in
    passes 4 _ (ap not k.0) ∙ passes 5 _ (ap not (finite_so s f.0 p.0)) ∙ passes 6 _ (ap not (sound_so s f.0 p.0))
    ∙ passes 7 _ (ap (λ (c : Config). not (finite_config c)) (same_derived s) ∙ ap not c.0) ∙ all_pass

pub stand_for : StandFor
stand_for = record { derived = same_derived; accepted = accepted_so }
