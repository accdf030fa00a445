-- One place more, and what is left over again.
use native.Mathlib.Omega.{arith}
use Rattle.forward.proofs.Rest.{one_place}
use Rattle.forward.proofs.remainder.rest_of_digits.Goals as goal

pub loop-preserved : goal.loop-preserved
loop-preserved c = (one_place c.args.m c.loop.counter c.args.n c.loop.rest c.loop.invariant.0, omega arith)
