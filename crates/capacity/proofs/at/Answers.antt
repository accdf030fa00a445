-- No more is lent than the arrays have.
use Rattle.std.proofs.Common.{sym, length-take-le, rules}
use Rattle.capacity.proofs.at.Goals as goal

pub slice_bounds-lent-end-4 : goal.slice_bounds-lent-end-4
slice_bounds-lent-end-4 g c = sym (length-take-le _ _ (search rules))

pub slice_bounds-lent-end-5 : goal.slice_bounds-lent-end-5
slice_bounds-lent-end-5 g c = sym (length-take-le _ _ (search rules))
