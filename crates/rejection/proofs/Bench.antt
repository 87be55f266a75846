-- How long a sensor is locked out and recovers, at some T: `Examples` hold, each side computed. Assumes nothing.
use mathlib.Core.Path.{refl}
use Rattle.number.specs.Whole.{saturated_of, clamp_of}
use Rattle.rejection.specs.Counts.{moved_of, updated_of}
use Rattle.rejection.specs.Recovery.{Examples}

pub examples : Examples
unfolding updated_of moved_of saturated_of clamp_of
examples =
    record {
      none = record { ignores = refl; recovers = refl; ends = refl };
      one = record { ignores = refl; recovers = refl; ends = refl };
      nine = record { ignores = refl; recovers = refl; ends = refl };
      ten = record { ignores = refl; recovers = refl; ends = refl };
      five_hundred = record { ignores = refl; recovers = refl; ends = refl };
      interrupted = refl;
    }
