-- One file more, of one argument more.
use Rattle.std.proofs.Common.{arith}
use Rattle.imaging.proofs.Counted.{counted}
use Rattle.imaging.proofs.fit_all.Goals as goal

pub loop-argument-preserved : goal.loop-argument-preserved
loop-argument-preserved g c =
    let more = counted _ _ c.count.ensures in
    let i = c.loop-argument.invariant in
    (omega (arith, i.0), i.1, omega (arith, i.0, c.loop-argument-test.true), omega (arith, more, i.0, i.3))
