-- `turns` is the one k with 90 * k - 45 < y / b ≤ 90 * k + 45. Assumes nothing.
use Rattle.std.proofs.Common.{ℕ, ◌+◌, ◌-◌, ◌*◌, ◌<◌, ◌≤◌, div-mul-le_self, arith}
use native.Mathlib.Nat.{lt-div-mul-add}
use Rattle.trig.specs.Degrees.{turns}

pub turns_over : (y b : ℕ) → 0 < b → turns y b * (90 * b) < y + 45 * b
unfolding turns
turns_over y b B =
    let s = div-mul-le_self (y + 45 * b - 1) (90 * b) in
    omega arith

pub turns_under : (y b : ℕ) → 0 < b → y ≤ turns y b * (90 * b) + 45 * b
unfolding turns
turns_under y b B =
    let s = lt-div-mul-add {a = y + 45 * b - 1} {b = 90 * b} (omega arith) in
    omega arith
