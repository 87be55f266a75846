-- Two floats that are the same number: equal as data, or both zero. Zero's sign is ignored.
use Rattle.std.specs.Prelude.{◌≡◌, zero, suc, Bool, false, Float}
use Rattle.std.specs.Float.{nan, inf, fin}

-- x with the sign of a zero dropped
unfoldable pub plain : Float → Float
plain nan = nan
plain (inf s) = inf s
plain (fin s zero e) = fin false zero e
plain (fin s (suc m) e) = fin s (suc m) e

pub record Same (x y : Float) : Type 0 where
  pub number : plain x ≡ plain y

-- the one number that `plain` changes
unfoldable pub is_minus_zero : Float → Bool
is_minus_zero nan = false
is_minus_zero (inf s) = false
is_minus_zero (fin s zero e) = s
is_minus_zero (fin s (suc m) e) = false

-- the size of x: its sign dropped
unfoldable pub fabsf_of : Float → Float
fabsf_of nan = nan
fabsf_of (inf s) = inf false
fabsf_of (fin s m e) = fin false m e
