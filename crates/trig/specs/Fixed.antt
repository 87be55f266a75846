-- The series as the code works them out, in fixed point: a number n stands for n / 2 ^ 30, and every product is cut toward zero.
use Rattle.std.specs.Prelude.{ℕ, ◌+◌, ◌-◌, ◌*◌, ◌/◌, ◌<◌, ◌≤◌, List, [], ◌∷◌}

-- 1: 2 ^ 30
abbrev pub one : ℕ
one = 1073741824

-- what a product may be divided by
abbrev pub IsDivisor : ℕ → Type 0
IsDivisor c = (0 < c) × (c ≤ 128)

-- a * b / c
unfoldable pub scaled_of : ℕ → ℕ → ℕ → ℕ
scaled_of a b c = a * b / (c * one)

-- 1 - u * h / c
unfoldable pub stage_of : ℕ → ℕ → ℕ → ℕ
stage_of u h c = one - scaled_of u h c

-- a stage for each divisor, the innermost first, from h on
abbrev pub stages_of : ℕ → ℕ → List ℕ → ℕ
stages_of u h [] = h
stages_of u h (c ∷ cs) = stages_of u (stage_of u h c) cs

-- from 1 on, at the square of t
abbrev pub series_of : ℕ → List ℕ → ℕ
series_of t cs = stages_of (scaled_of t t 1) one cs

-- what the sine of t has of t: 1 - u / 6 * (1 - u / 20 * (1 - u / 42 * (1 - u / 72 * (1 - u / 110)))), where u = t * t
abbrev pub share_of : ℕ → ℕ
share_of t =
    let u = scaled_of t t 1 in
    stage_of u (stage_of u (stage_of u (stage_of u (stage_of u one 110) 72) 42) 20) 6

unfoldable pub sine_fixed_of : ℕ → ℕ
sine_fixed_of t = scaled_of t (share_of t) 1

-- 1 - u / 2 * (1 - u / 12 * (1 - u / 30 * (1 - u / 56 * (1 - u / 90)))), where u = t * t
unfoldable pub cosine_fixed_of : ℕ → ℕ
cosine_fixed_of t =
    let u = scaled_of t t 1 in
    stage_of u (stage_of u (stage_of u (stage_of u (stage_of u one 90) 56) 30) 12) 2

-- pi / 180 in steps of 2 ^ -29, the nearest
abbrev pub slope : ℕ
slope = 9370165

-- that times the share of t, the nearest whole number; 536870912 is a half
unfoldable pub per_degree_of : ℕ → ℕ
per_degree_of t = (share_of t * slope + 536870912) / one
