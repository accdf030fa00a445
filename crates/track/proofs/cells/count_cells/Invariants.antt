-- A count of those that pass the test.
use Rattle.std.proofs.Common.{nat_eq}
use Rattle.track.specs.Cells.{nearest_cells}
use Rattle.track.proofs.Totals.{Counted}
use Rattle.track.proofs.cells.count_cells.Given as goal

abbrev pub invariant-loop-t : goal.invariant-loop-t
invariant-loop-t l = Counted (λ x. nat_eq (nearest_cells l.seen x) l.cells) l.ticks l.count l.t-index
