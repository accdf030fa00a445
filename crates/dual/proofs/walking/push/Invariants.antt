-- What is left to be pushed (`Pushing`).
use Rattle.dual.proofs.Loops.{Pushing}
use Rattle.dual.proofs.walking.push.Given as goal

abbrev pub invariant-loop-slot : goal.invariant-loop-slot
invariant-loop-slot l = Pushing l.nodes l.i l.node_adjoint l.first l.end l.initial.adjoint l.slot l.adjoint
