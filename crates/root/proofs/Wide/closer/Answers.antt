-- `root::Wide::closer` meets its contract. Assumes nothing.
use Prim.Native.Nat.{◌<◌}
use native.Mathlib.Omega.{arith}
use Rattle.root.proofs.Newton.{newton_above}
use Rattle.root.proofs.Halves.{positive, quotient_lt}
use Rattle.root.proofs.Wide.closer.Goals as goal

pub returns : goal.returns
returns c =
    let m = c.args.self.m in
    let some : 0 < c.args.r = positive m c.args.r c.args.self.at_least c.requires.0 in
    (newton_above m c.args.r some, omega (arith, quotient_lt m c.args.r some c.requires.0))
