-- A sum, of each the rule's square.
use Rattle.track.specs.Index.{square_if_counted}
use Rattle.track.proofs.Sums.{Summed}
use Rattle.track.proofs.index.index_squares.Given as goal

abbrev pub invariant-loop-time : goal.invariant-loop-time
invariant-loop-time l = Summed (square_if_counted l.median l.turn) l.times l.sum l.time-index
