-- By whether the file was fitted.
use Rattle.imaging.specs.Tally.{tallied}
use Rattle.imaging.proofs.tally.Tally.count.Goals as goal

pub returns-then-fitted : goal.returns-then-fitted
unfolding tallied
returns-then-fitted c = rw c.if-fitted.true

pub returns-else-fitted : goal.returns-else-fitted
unfolding tallied
returns-else-fitted c = rw c.if-fitted.false
