-- The rule's test, on the interval with its weight.
use Rattle.track.specs.Cells.{off}
use Rattle.track.proofs.cells.is_off.Goals as goal

pub returns : goal.returns
unfolding off
returns c = rw c.weigh-weighed.ensures
