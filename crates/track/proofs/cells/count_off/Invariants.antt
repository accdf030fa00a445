-- A count of those that pass the test.
use Rattle.track.specs.Cells.{off}
use Rattle.track.proofs.Totals.{Counted}
use Rattle.track.proofs.cells.count_off.Given as goal

abbrev pub invariant-loop-t : goal.invariant-loop-t
invariant-loop-t l = Counted (off l.seen) l.ticks l.count l.t-index
