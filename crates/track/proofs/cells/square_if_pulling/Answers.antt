-- 0 where it is off, and the rule's square where not.
use Rattle.track.specs.Cells.{square_if_pulling}
use Rattle.track.proofs.cells.square_if_pulling.Goals as goal

pub returns-then-is_off : goal.returns-then-is_off
unfolding square_if_pulling
returns-then-is_off c = rw (← c.is_off.ensures, c.if-is_off.true)

pub returns : goal.returns
unfolding square_if_pulling
returns c =
    rw (← c.is_off.ensures, c.if-is_off.false, ← c.nearest_cells-cells.ensures, ← c.nearest_usize_to_f64.ensures)
