-- What is left to be pushed (`Pushing`).
use Rattle.dual.proofs.Loops.{pushed_one}
use Rattle.dual.proofs.walking.push.Goals as goal

pub loop-slot-preserved : goal.loop-slot-preserved
loop-slot-preserved c = pushed_one _ _ _ _ _ _ _ _ c.loop-slot.invariant c.loop-slot-test.true
