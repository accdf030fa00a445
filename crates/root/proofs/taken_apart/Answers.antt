-- `root::taken_apart` meets its contract. Assumes nothing.
use native.Mathlib.Omega.{arith}
use Rattle.root.proofs.Answer.{scales_low, scales_high}
use Rattle.root.proofs.taken_apart.Goals as goal

pub returns-then-exponent-eq0 : goal.returns-then-exponent-eq0
returns-then-exponent-eq0 c = (omega arith, omega arith, omega arith, scales_low _ _ _ c.requires.1 c.if-exponent-eq0.true c.shifted_up.ensures.0)

pub returns-else-exponent-eq0 : goal.returns-else-exponent-eq0
returns-else-exponent-eq0 c = (omega arith, omega arith, omega arith, scales_high _ c.requires.1 c.if-exponent-eq0.false)
