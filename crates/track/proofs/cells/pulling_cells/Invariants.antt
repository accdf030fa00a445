-- A sum of at most 8 for each interval, which 64 bits hold.
use Rattle.track.specs.Cells.{cells_if_pulling}
use Rattle.track.proofs.Totals.{Added}
use Rattle.track.proofs.cells.pulling_cells.Given as goal

abbrev pub invariant-loop-t : goal.invariant-loop-t
invariant-loop-t l = Added (cells_if_pulling l.seen) 8 l.ticks l.cells l.t-index
