-- Signed numbers of 32 bits: saturation, and the Rust's clamp. Conversions are lib.Ieee's `to_unsigned`, `to_signed` and `of_int`.
use Rattle.std.specs.Prelude.{cond, ℤ, pos, negsuc, int_lt}

-- the nearest number from -2^31 to 2^31 - 1
unfoldable pub saturated_of : ℤ → ℤ
saturated_of z =
    cond (int_lt z (negsuc 2147483647)) (negsuc 2147483647) (cond (int_lt (pos 2147483647) z) (pos 2147483647) z)

-- the lower end is tried first
unfoldable pub clamp_of : ℤ → ℤ → ℤ → ℤ
clamp_of value min max = cond (int_lt value min) min (cond (int_lt max value) max value)
