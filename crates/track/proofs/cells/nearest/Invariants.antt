-- A search for the first boundary that the time is below.
use Rattle.track.specs.Cells.{boundaries}
use Rattle.track.proofs.Boundaries.{Passed}
use Rattle.track.proofs.cells.nearest.Given as goal

abbrev pub invariant-loop-i : goal.invariant-loop-i
invariant-loop-i l = Passed l.seen l.t boundaries l.i
