-- So the angle that is found is at most 45 degrees, and has nearly the tangent. Assumes nothing.
use Rattle.std.proofs.Common.{ℕ, ◌≤◌}
use Rattle.trig.specs.Octant.{tangent_one, octant_of}
use Rattle.trig.proofs.Octants.{Level, level, leveled}

pub octant_level : (p : ℕ) → p ≤ tangent_one → Level p (octant_of p)
octant_level p P = level p (octant_of p) (leveled p P)
