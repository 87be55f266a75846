-- The entries of a row are 0, 1 and -1, and their floats are plus zero, one and minus one: `Entries` holds. Assumes nothing.
use mathlib.Core.Path.{◌≡◌, refl, ap}
use mathlib.Core.Logic.{inl, inr}
use lib.IntN.{ℤ, pos, negsuc, neg_ℤ}
use lib.Ieee.{neg, of_bits, of_int, round, units, odd}
use Rattle.number.specs.Float32.{zero, one}
use Rattle.vector.specs.Mounting.{Signed, Px, Py, Pz, Nx, Ny, Nz, read}
use Rattle.alignment.specs.Matrix.{float_of}
use Rattle.alignment.specs.Laws.{OneOfThree, Entries}

-- ---- each is one of three

negative : {z : ℤ} → OneOfThree z → OneOfThree (neg_ℤ z)
negative (inl e) = inl (ap neg_ℤ e)
negative (inr (inl e)) = inr (inr (ap neg_ℤ e))
negative (inr (inr e)) = inr (inl (ap neg_ℤ e))

module _ {a b c : ℤ} (p : OneOfThree a) (q : OneOfThree b) (r : OneOfThree c) where
  of_three : (s : Signed) → OneOfThree (read neg_ℤ a b c s)
  of_three Px = p
  of_three Py = q
  of_three Pz = r
  of_three Nx = negative p
  of_three Ny = negative q
  of_three Nz = negative r

-- ---- their floats

pub nought : float_of (pos 0) ≡ zero
unfolding of_int round units odd of_bits
nought = refl

pub unit : float_of (pos 1) ≡ one
unfolding of_int round units odd of_bits
unit = refl

pub minus_unit : float_of (negsuc 0) ≡ neg one
unfolding of_int round units odd of_bits neg
minus_unit = refl

pub entries : Entries
entries =
    record {
      x = of_three (inr (inl refl)) (inl refl) (inl refl);
      y = of_three (inl refl) (inr (inl refl)) (inl refl);
      z = of_three (inl refl) (inl refl) (inr (inl refl));
      nought = nought;
      unit = unit;
      minus_unit = minus_unit;
    }
