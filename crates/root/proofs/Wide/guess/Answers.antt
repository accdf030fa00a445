-- `root::Wide::guess` meets its contract. Assumes nothing.
use native.Mathlib.Omega.{arith}
use lib.Dec.{lit<}
use Rattle.root.proofs.Newton.{newton_above}
use Rattle.root.proofs.Wide.guess.Goals as goal

pub returns-then-self-lt-TWICE_PLACE : goal.returns-then-self-lt-TWICE_PLACE
returns-then-self-lt-TWICE_PLACE c = (newton_above c.args.self.m 79806339 (lit< tt), omega arith)

pub returns-else-self-lt-TWICE_PLACE : goal.returns-else-self-lt-TWICE_PLACE
returns-else-self-lt-TWICE_PLACE c = (newton_above c.args.self.m 112863206 (lit< tt), omega arith)
