-- What is left to be walked (`Walking`).
use Rattle.dual.proofs.Loops.{Walking}
use Rattle.dual.proofs.walking.walk.Given as goal

abbrev pub invariant-loop-i : goal.invariant-loop-i
invariant-loop-i l = Walking l.nodes l.fn.span l.initial.adjoint l.i l.visited l.adjoint
