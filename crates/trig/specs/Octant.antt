-- The angle up to 45 degrees whose tangent is given, as the port finds it, in steps of 2 ^ -16 degrees; a tangent is in steps of 2 ^ -24. A polynomial
-- guesses it; where the guess is not level, it is bisected.
use Rattle.std.specs.Prelude.{ℕ, zero, suc, ◌+◌, ◌-◌, ◌*◌, ◌/◌, ◌≤◌, Bool, cond, ◌&&◌, T, nat_le}
use Rattle.trig.specs.declared.octant.Span.{Span}
use Rattle.trig.specs.Degrees.{apart}
use Rattle.trig.specs.Fixed.{scaled_of, sine_fixed_of, cosine_fixed_of}
use Rattle.trig.specs.Wave.{radians_of}

-- the tangent 1: 2 ^ 24
abbrev pub tangent_one : ℕ
tangent_one = 16777216

-- 45 degrees
abbrev pub most : ℕ
most = 2949120

-- the fixed-point sine and cosine of n steps; a step is 1024 of the sine's grid
unfoldable pub sine_step : ℕ → ℕ
sine_step n = sine_fixed_of (radians_of (n * 1024))

unfoldable pub cosine_step : ℕ → ℕ
cosine_step n = cosine_fixed_of (radians_of (n * 1024))

-- the sine, at the tangent 1, and the cosine, at the tangent p: equal where p is the tangent of n steps
abbrev pub rise_of : ℕ → ℕ
rise_of n = sine_step n * tangent_one

abbrev pub run_of : ℕ → ℕ → ℕ
run_of p n = p * cosine_step n

-- how far apart the two may be: 352 steps of the fixed-point sine, at the tangent 1
abbrev pub off : ℕ
off = 352 * tangent_one

-- n steps, at most 45 degrees, have nearly the tangent p
abbrev pub is_level : ℕ → ℕ → Bool
is_level p n = nat_le n most && nat_le (apart (rise_of n) (run_of p n)) off

-- ---- the guess

-- a - u * h, in fixed point
abbrev pub term_of : ℕ → ℕ → ℕ → ℕ
term_of a u h = a - scaled_of u h 1

-- a polynomial in the square of the tangent times the tangent; its coefficients are in steps times 2 ^ 8, and fitted to the arc tangent
unfoldable pub guess_of : ℕ → ℕ
guess_of p =
    let u = p * p / 262144 in
    let h4 = term_of 92686968 u (term_of 53746529 u (term_of 21016096 u 3897516)) in
    let h0 = term_of 961263030 u (term_of 320387843 u (term_of 191739091 u (term_of 133698613 u h4))) in
    (p * h0 + 2147483648) / 4294967296

-- ---- the bisection

abbrev pub span : ℕ → ℕ → Span
span lo hi = record { lo = lo; hi = hi }

-- the half in which the tangent is not passed at lo, and is at hi
unfoldable pub halved_of : ℕ → Span → Span
halved_of p s =
    let mid = (s.lo + s.hi) / 2 in
    cond (nat_le (rise_of mid) (run_of p mid)) (span mid s.hi) (span s.lo mid)

-- from 0 to 45 degrees, halved so many times
unfoldable pub span_of : ℕ → ℕ → Span
span_of p zero = span 0 most
span_of p (suc i) = halved_of p (span_of p i)

-- 22 halvings leave one step
abbrev pub bisected_of : ℕ → Span
bisected_of p = span_of p 22

-- the end that is nearer: what lo is short of the tangent, and what hi is past it. At 45 degrees the fixed-point sine is two steps less than the cosine,
-- so the tangent 1 is passed only with these added
unfoldable pub nearer_of : ℕ → Span → ℕ
nearer_of p s =
    cond (nat_le (run_of p s.lo - rise_of s.lo) (rise_of s.hi + 2 * tangent_one - run_of p s.hi)) s.lo s.hi

-- ---- the angle

unfoldable pub octant_of : ℕ → ℕ
octant_of p = cond (is_level p (guess_of p)) (guess_of p) (nearer_of p (bisected_of p))

-- whatever the guess, the angle has nearly the tangent: proved in proofs/Octants
abbrev pub Leveled : Type 0
Leveled = (p : ℕ) → p ≤ tangent_one → T (is_level p (octant_of p))
