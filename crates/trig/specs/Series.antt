-- 02's power series at the angle n / d in radians, over whole numbers: `sine_num n d` over `sine_den d`, and `cosine_num n d` over `cosine_den d`. The terms
-- with a plus are gathered first, then those with a minus; for n ≤ d the difference is not cut.
use Rattle.std.specs.Prelude.{ℕ, ◌+◌, ◌-◌, ◌*◌, ◌^◌}

-- t - t^3 / 3! + t^5 / 5! - t^7 / 7! + t^9 / 9! - t^11 / 11!, times 11! * d^11. 11! / 3! is 6652800, and so on
unfoldable pub sine_num : ℕ → ℕ → ℕ
sine_num n d =
    39916800 * n * d ^ 10 + 332640 * n ^ 5 * d ^ 6 + 110 * n ^ 9 * d ^ 2
    - (6652800 * n ^ 3 * d ^ 8 + 7920 * n ^ 7 * d ^ 4 + n ^ 11)

unfoldable pub sine_den : ℕ → ℕ
sine_den d = 39916800 * d ^ 11

-- 1 - t^2 / 2! + t^4 / 4! - t^6 / 6! + t^8 / 8! - t^10 / 10!, times 10! * d^10
unfoldable pub cosine_num : ℕ → ℕ → ℕ
cosine_num n d =
    3628800 * d ^ 10 + 151200 * n ^ 4 * d ^ 6 + 90 * n ^ 8 * d ^ 2
    - (1814400 * n ^ 2 * d ^ 8 + 5040 * n ^ 6 * d ^ 4 + n ^ 10)

unfoldable pub cosine_den : ℕ → ℕ
cosine_den d = 3628800 * d ^ 10
