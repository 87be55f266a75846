-- The names are those of the triples with determinant 1: `NamesOfDeterminantOne` holds. Assumes nothing.
use Prim.Native.Nat.{ℕ}
use mathlib.Core.Path.{◌≡◌, sym, ap, ◌∙◌}
use lib.IntN.{pos}
use Rattle.vector.specs.Mounting.{Mounting}
use Rattle.vector.specs.Determinant.{determinant_of}
use Rattle.vector.proofs.Determinant.{all_of_determinant_one}
use Rattle.std.specs.declared.result.Result.TheVariants.{Ok}
use Rattle.remap.specs.Names.{spell, name_of, read_of, NamesOfDeterminantOne}
use Rattle.remap.proofs.Naming.{name_read, no_other}
use Rattle.remap.proofs.Composing.{spell_once}

named : (m : Mounting) → determinant_of m ≡ pos 1 → (n : ℕ) × (read_of (spell m) ≡ Ok n)
unfolding name_of
named m e =
    let k = all_of_determinant_one.all m e in
    (k.number, ap (λ (a : Mounting). read_of (spell a)) (sym k.is) ∙ name_read k.number k.below)

of_a_name : (m : Mounting) (n : ℕ) → read_of (spell m) ≡ Ok n → determinant_of m ≡ pos 1
unfolding name_of
of_a_name m n e =
    let (below, is) = no_other (spell m) n e in
    all_of_determinant_one.no_other m (record { number = n; below = below; is = spell_once _ m (sym is) })

pub names_of_determinant_one : NamesOfDeterminantOne
names_of_determinant_one = record { all = named; no_other = of_a_name }
