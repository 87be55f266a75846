-- Which axes are over, by the settings, and whether any is: `Over` holds. Assumes nothing.
use mathlib.Core.Path.{◌≡◌, refl}
use mathlib.Core.Bool.{Bool, true, false, ◌&&◌, ◌||◌}
use Rattle.vector.specs.Vectors.{larger, exceeds_of}
use Rattle.settings.specs.Config.{derived_of}
use Rattle.settings.specs.Axes.{over_of, Over}

-- a test that is in all three stands before them
out : (on x y z : Bool) → ((on && x) || (on && y) || (on && z)) ≡ (on && (x || y || z))
out true x y z = refl
out false x y z = refl

pub over : Over
unfolding derived_of over_of exceeds_of
over =
    record {
      by_range = λ s rate. refl;
      not_none =
          λ c g.
          let limit = c.overrange_threshold in
          out c.overrange_enabled (larger limit g.x) (larger limit g.y) (larger limit g.z);
    }
