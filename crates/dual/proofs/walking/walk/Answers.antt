-- What is left to be walked (`Walking`).
use Rattle.dual.proofs.Loops.{walked_one, next_room}
use Rattle.dual.proofs.walking.walk.Goals as goal

pub push-requires : goal.push-requires
push-requires c = next_room _ _ _ _ _ _ c.requires c.loop-i.invariant c.loop-i-test.true

pub loop-i-preserved : goal.loop-i-preserved
loop-i-preserved c = walked_one _ _ _ _ _ _ c.loop-i.invariant c.loop-i-test.true c.requires _ c.push.ensures c.push.auto.adjoint
