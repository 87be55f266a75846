-- The fixed-point sine and cosine are within a few units of 2 ^ -30 of document 02's series: the central lemma. Assumes nothing.
use Rattle.std.proofs.Common.{ℕ, ◌-◌, ◌*◌, ◌/◌, ◌≤◌, List, [], ◌∷◌, le_refl, mul-le-mul, one-mul, arith, lit<, lit≤}
use Rattle.trig.specs.Fixed.{one, scaled_of, stage_of, sine_fixed_of, cosine_fixed_of}
use Rattle.trig.specs.Series.{sine_num, sine_den, cosine_num, cosine_den}
use Rattle.trig.proofs.Around.{Around, Stage, times, stage, cut_fixed}
use Rattle.trig.proofs.Terms.{top, bot, sines, cosines}
use Rattle.trig.proofs.Nested.{sine_series, sine_bottom, cosine_series, cosine_bottom}

abbrev pub nested : ℕ → List ℕ → ℕ
nested u [] = one
nested u (c ∷ cs) = one - u * nested u cs / (c * one)

abbrev From7 : List ℕ → Type 0
From7 [] = Unit
From7 (c ∷ cs) = (7 ≤ c) × From7 cs

-- with u within 5 units, each stage whose divisor is 7 or more is within 2: 5 + 2 and c for the cut make at most 2 * c
inner : (u v w : ℕ) → Stage one 5 u v w → (cs : List ℕ) → From7 cs → Stage one 2 (nested u cs) (top v w cs) (bot w cs)
inner u v w U [] h = record { near = record { over = lit≤ tt; under = lit≤ tt }; small = le_refl 1; fixed = le_refl one }
inner u v w U (c ∷ cs) h =
    stage one (lit< tt) c 2 5 2 u (nested u cs) v w (top v w cs) (bot w cs) (omega (arith, h.0)) (omega (arith, h.0)) U (inner u v w U cs h.1)

-- t / 2 ^ 30 is within 2 units of n / d, which is at most 1
module _ (t n d : ℕ) (T : Around one 2 t n d) (small : n ≤ d) (fixed : t ≤ one) where
  u : ℕ
  u = t * t / one

  square : Stage one 5 u (n * n) (d * d)
  unfolding u
  square =
      record {
        near = rw (one-mul d) at (times one (lit< tt) 1 5 2 2 t t n d n d (lit< tt) (lit≤ tt) small fixed T T);
        small = mul-le-mul small small;
        fixed = cut_fixed one 1 t t (lit< tt) fixed fixed;
      }

  sine_stage : Stage one 3 (nested u sines) (top (n * n) (d * d) sines) (bot (d * d) sines)
  sine_stage =
      let cs : List ℕ = 20 ∷ 42 ∷ 72 ∷ 110 ∷ [] in
      stage one (lit< tt) _ 3 5 2 u (nested u cs) (n * n) (d * d) (top (n * n) (d * d) cs) (bot (d * d) cs) (lit< tt) (lit≤ tt) square
      (inner u (n * n) (d * d) square cs (lit≤ tt, (lit≤ tt, (lit≤ tt, (lit≤ tt, tt)))))

  cosine_stage : Stage one 5 (nested u cosines) (top (n * n) (d * d) cosines) (bot (d * d) cosines)
  cosine_stage =
      let cs : List ℕ = 12 ∷ 30 ∷ 56 ∷ 90 ∷ [] in
      stage one (lit< tt) 2 5 5 2 u (nested u cs) (n * n) (d * d) (top (n * n) (d * d) cs) (bot (d * d) cs) (lit< tt) (lit≤ tt) square
      (inner u (n * n) (d * d) square cs (lit≤ tt, (lit≤ tt, (lit≤ tt, (lit≤ tt, tt)))))

  pub sine_around : Around one 6 (sine_fixed_of t) (sine_num n d) (sine_den d)
  unfolding u sine_fixed_of stage_of scaled_of
  sine_around =
      rw (one-mul d, sine_series n d (mul-le-mul small small), sine_bottom d) at
      (times one (lit< tt) 1 6 2 3 t (nested u sines) n d (top (n * n) (d * d) sines) (bot (d * d) sines) (lit< tt) (lit≤ tt) small
      sine_stage.fixed T sine_stage.near)

  pub cosine_around : Around one 5 (cosine_fixed_of t) (cosine_num n d) (cosine_den d)
  unfolding u cosine_fixed_of stage_of scaled_of
  cosine_around = rw (cosine_series n d (mul-le-mul small small), cosine_bottom d) at cosine_stage.near
