-- `trig::octant::term` meets its contract: a share of h is at most h.
use Rattle.std.proofs.Common.{ℕ, ◌*◌, ◌≤◌, mul-le-mul_right, arith}
use native.Mathlib.Nat.{div-le_of_le-mul}
use Rattle.trig.specs.Fixed.{one, scaled_of}
use Rattle.trig.proofs.octant.term.Goals as goal

share_small : (u h : ℕ) → u ≤ one → scaled_of u h 1 ≤ h
unfolding scaled_of
share_small u h U = div-le_of_le-mul (1 * one) (omega (arith, mul-le-mul_right h U))

pub overflow_sub-result : goal.overflow_sub-result
overflow_sub-result c = omega (arith, c.scaled.ensures, share_small c.args.u.n c.args.h.n c.args.u.small)
