-- The digits of two quarters, one behind the other, are those of the half.
use Rattle.text.proofs.Halves.{both}
use Rattle.text.proofs.write.write_half.Goals as goal

pub returns : goal.returns
returns c = let l = c.before.before in both 4 l.args.half l.write_quarter.ensures l.write_quarter-2.ensures
