-- The stages that are left lead on from h to the series.
use Rattle.std.proofs.Common.{◌≡◌, ◌≤◌, drop}
use Rattle.trig.specs.Fixed.{one, stages_of, series_of}
use Rattle.trig.proofs.fixed.Fixed.series.Given as goal

abbrev pub invariant-loop-c : goal.invariant-loop-c
invariant-loop-c l = (l.h.0 ≤ one) × (stages_of l.square.n l.h.0 (drop l.c-index l.c-items) ≡ series_of l.fn.self.n l.c-items)
