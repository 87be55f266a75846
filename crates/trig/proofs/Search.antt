-- The bisection keeps the tangent between the ends of its span, and 22 halvings leave one step. Assumes nothing.
use Rattle.std.proofs.Common.{◌≡◌, ℕ, zero, suc, ◌+◌, ◌*◌, ◌/◌, ◌<◌, ◌≤◌, Bool, true, false, cond, leb, sym, refl, ap, ◌∙◌, subst, inl, inr, zero-le, add-one}
use Rattle.std.proofs.Common.{arith, lit<, lit≤, leb-false, leb-true}
use Rattle.trig.specs.declared.octant.Span.{Span}
use Rattle.trig.specs.Fixed.{scaled_of, stage_of, sine_fixed_of, cosine_fixed_of}
use Rattle.trig.specs.Wave.{radians_of}
use Rattle.trig.specs.Octant.{tangent_one, most, sine_step, cosine_step, rise_of, run_of, span, halved_of, span_of}
use Rattle.trig.proofs.Reduce.{order}

-- the tangent p is not passed at lo, and at hi it is, but for two units
pub record Between (p : ℕ) (s : Span) : Type 0 where
  pub apart : s.lo < s.hi
  pub inside : s.hi ≤ most
  pub low : rise_of s.lo ≤ run_of p s.lo
  pub high : run_of p s.hi ≤ rise_of s.hi + 2 * tangent_one

-- how many steps more than one a span may have after i halvings
unfoldable pub room_of : ℕ → ℕ
room_of zero = 2949119
room_of (suc i) = room_of i / 2

pub record Spanned (p i : ℕ) (s : Span) : Type 0 where
  pub between : Between p s
  pub room : s.hi ≤ s.lo + 1 + room_of i

-- where it starts: at 0 degrees the sine is 0, and at 45 the cosine is 2 units more than the sine
starts_low : (p : ℕ) → rise_of 0 ≤ run_of p 0
unfolding sine_step sine_fixed_of stage_of scaled_of radians_of
starts_low p = zero-le

starts_high : (p : ℕ) → p ≤ tangent_one → run_of p most ≤ rise_of most + 2 * tangent_one
unfolding sine_step sine_fixed_of cosine_step cosine_fixed_of stage_of scaled_of radians_of
starts_high p h = omega arith

-- the tangent is passed at mid and not at lo, so the two differ
differ : (p lo mid : ℕ) → lo ≤ mid → rise_of lo ≤ run_of p lo → run_of p mid < rise_of mid → lo < mid
differ p lo mid h s t =
    elim (order lo mid) [
      | inl l ↦ l
      | inr (inl e) ↦ absurd (same e)
      | inr (inr g) ↦ omega arith
    ]
  where
    same : lo ≡ mid → ⊥
    same e =
        let u : rise_of mid ≤ run_of p mid = subst (λ (z : ℕ). rise_of z ≤ run_of p z) e s in
        omega arith

abbrev mid : Span → ℕ
mid s = (s.lo + s.hi) / 2

module _ (p i : ℕ) (s : Span) (h : Spanned p i s) where
  by_test : (b : Bool) → leb (rise_of (mid s)) (run_of p (mid s)) ≡ b → Spanned p (suc i) (cond b (span (mid s) s.hi) (span s.lo (mid s)))
  unfolding room_of
  by_test true e =
      record {
        between = record { apart = omega arith; inside = h.between.inside; low = leb-true _ _ e; high = h.between.high };
        room = omega (arith, h.room);
      }
  by_test false e =
      let g : run_of p (mid s) < rise_of (mid s) = leb-false _ _ e in
      record {
        between =
            record { apart = differ p s.lo (mid s) (omega arith) h.between.low g; inside = omega arith; low = h.between.low; high = omega arith };
        room = omega (arith, h.room);
      }

  halves : Spanned p (suc i) (halved_of p s)
  unfolding halved_of
  halves = by_test (leb (rise_of (mid s)) (run_of p (mid s))) refl

pub spanned : (p i : ℕ) → p ≤ tangent_one → Spanned p i (span_of p i)
unfolding span_of room_of
spanned p zero P =
    record { between = record { apart = lit< tt; inside = lit≤ tt; low = starts_low p; high = starts_high p P }; room = lit≤ tt }
spanned p (suc i) P = halves p i (span_of p i) (spanned p i P)

no_room : room_of 22 ≡ 0
unfolding room_of
no_room = refl

pub one_step : (p : ℕ) → p ≤ tangent_one → (span_of p 22).hi ≤ (span_of p 22).lo + 1
one_step p P = omega (arith, (spanned p 22 P).room, no_room)

-- ---- what the calls come to

pub between : (p i : ℕ) {s : Span} → p ≤ tangent_one → s ≡ span_of p i → Between p s
between p i P e = subst (λ (z : Span). Between p z) (sym e) (spanned p i P).between

pub once_more : (p i : ℕ) {s t : Span} → s ≡ span_of p i → t ≡ halved_of p s → t ≡ span_of p (i + 1)
unfolding span_of
once_more p i e f = f ∙ ap (halved_of p) e ∙ rw (add-one i)
