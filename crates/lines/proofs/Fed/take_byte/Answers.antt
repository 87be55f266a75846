-- `lines::Fed::take_byte` meets its contract.
use Prim.Native.Nat.{ℕ, ◌+◌}
use native.Mathlib.Omega.{arith}
use mathlib.Core.Path.{refl, ap}
use Rattle.lines.proofs.Keeping.{print_short}
use Rattle.text.proofs.Putting.{behind}
use Rattle.lines.proofs.Fed.take_byte.Goals as goal

pub overflow_add-n : goal.overflow_add-n
overflow_add-n c =
    let a = c.args in
    omega (arith, c.print.ensures.count, print_short a.self.line a.byte)

pub returns : goal.returns
returns c =
    let p = c.print.ensures in
    record {
      number = refl;
      line = c.kept.ensures;
      count = ap (λ (k : ℕ). c.args.self.n + k) p.count;
      holds = behind _ c.args.out.now (omega arith) p;
    }
