-- A search for the first boundary that the time is below.
use Rattle.track.proofs.Boundaries.{first, one_passed, all_passed}
use Rattle.track.proofs.cells.nearest.Goals as goal

pub returns-then-t-boundary : goal.returns-then-t-boundary
returns-then-t-boundary c = first c.loop-i.invariant c.loop-i-test.true c.if-t-boundary.true

pub loop-i-preserved : goal.loop-i-preserved
loop-i-preserved c = one_passed c.loop-i.invariant c.loop-i-test.true c.if-t-boundary.false

pub returns : goal.returns
returns c = all_passed c.loop-i.invariant c.loop-i-test.false
