-- `one_more` reads no NaN's pattern as a float: those that are drawn lie below that of infinity.
use Rattle.root.proofs.Cases.{no_nan}
use Rattle.speed.proofs.roots.Sort.one_more.Goals as goal

pub float_from_bits-x : goal.float_from_bits-x
float_from_bits-x c = no_nan c.pattern-x.result c.pattern-x.ensures
