-- A sum, of each the rule's square.
use Rattle.track.specs.Cells.{square_if_pulling}
use Rattle.track.proofs.Sums.{Summed}
use Rattle.track.proofs.cells.pulling_squares.Given as goal

abbrev pub invariant-loop-t : goal.invariant-loop-t
invariant-loop-t l = Summed (square_if_pulling l.seen) l.ticks l.sum l.t-index
