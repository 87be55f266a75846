-- `root::Finite::half_exponent` meets its contract.
use native.Mathlib.Omega.{arith}
use Rattle.root.proofs.Scaled.{exponent_range}
use Rattle.root.proofs.Squared.{normal_half}
use Rattle.root.proofs.Finite.half_exponent.Goals as goal

pub overflow_mul-result : goal.overflow_mul-result
overflow_mul-result c = omega (arith, c.exponent.ensures, (exponent_range _ c.args.self.in_range).1)

pub returns : goal.returns
returns c = normal_half _ c.if-b-lt8388608.false
