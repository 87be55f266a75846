-- `root::Finite::squared` meets its contract.
use native.Mathlib.Omega.{arith}
use Rattle.root.proofs.Scaled.{significand_range}
use Rattle.root.proofs.Squared.{even, uneven, normal_even, normal_uneven}
use Rattle.root.proofs.Finite.squared.Goals as goal

pub overflow_mul-result : goal.overflow_mul-result
overflow_mul-result c = omega (arith, c.significand-sig.ensures, (significand_range _ c.args.self.in_range).1)

pub returns-then-exponent-eq0 : goal.returns-then-exponent-eq0
returns-then-exponent-eq0 c = even _ _ _ c.significand-sig.ensures c.exponent.ensures c.if-exponent-eq0.true

pub overflow_mul-result-then-b-lt8388608 : goal.overflow_mul-result-then-b-lt8388608
overflow_mul-result-then-b-lt8388608 c = omega (arith, c.significand-sig.ensures, (significand_range _ c.args.self.in_range).1)

pub returns-then-b-lt8388608 : goal.returns-then-b-lt8388608
returns-then-b-lt8388608 c = uneven _ _ _ c.significand-sig.ensures c.exponent.ensures c.if-exponent-eq0.false

pub returns-then-v-lt8388608 : goal.returns-then-v-lt8388608
returns-then-v-lt8388608 c = normal_even _ c.if-b-lt8388608.false c.if-v-lt8388608.true c.from.ensures

pub returns : goal.returns
returns c = normal_uneven _ c.if-b-lt8388608.false c.if-v-lt8388608.false c.from-2.ensures
