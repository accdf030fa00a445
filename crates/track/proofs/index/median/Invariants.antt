-- A search for the first that stands in the middle.
use Rattle.track.specs.Index.{middle}
use Rattle.track.proofs.Searched.{Searched}
use Rattle.track.proofs.index.median.Given as goal

abbrev pub invariant-loop-time : goal.invariant-loop-time
invariant-loop-time l = Searched (middle l.times) l.times l.time-index
