-- `root::Finite::root_bits` meets its contract.
use native.Mathlib.Omega.{arith}
use mathlib.Core.Path.{◌∙◌, ap}
use Rattle.root.specs.Root.{nearest_root_of, root_bits_of}
use Rattle.root.proofs.Scaled.{exponent_range, squared_range, digits_range}
use Rattle.root.proofs.Finite.root_bits.Goals as goal

pub nearest_root-requires : goal.nearest_root-requires
nearest_root-requires c =
    let s = squared_range _ c.args.self.in_range in
    (omega (arith, c.squared.ensures, s.0), omega (arith, c.squared.ensures, s.1))

pub overflow_cast-result : goal.overflow_cast-result
overflow_cast-result c = omega (arith, c.nearest_root.ensures ∙ ap nearest_root_of c.squared.ensures, (digits_range _ c.args.self.in_range).1)

pub overflow_add-result : goal.overflow_add-result
overflow_add-result c =
    let f = c.args.self.in_range in
    let q = c.nearest_root.ensures ∙ ap nearest_root_of c.squared.ensures in
    omega (arith, q, (digits_range _ f).1, c.half_exponent.ensures, (exponent_range _ f).1)

pub returns : goal.returns
unfolding root_bits_of
returns c = cc (c.nearest_root.ensures ∙ ap nearest_root_of c.squared.ensures, c.half_exponent.ensures)
