-- Each field, from the call that made it.
use Rattle.track.specs.Cells.{weighed}
use Rattle.track.proofs.Lengths.{one_to_eight}
use Rattle.track.proofs.cells.weigh.Goals as goal

pub root-root-requires : goal.root-root-requires
root-root-requires c = rw c.nearest_cells-cells.ensures (one_to_eight _ _)

pub clip-requires : goal.clip-requires
clip-requires c = rw c.nearest_cells-cells.ensures (one_to_eight _ _)

pub returns : goal.returns
unfolding weighed
returns c = rw (← c.nearest_cells-cells.ensures, ← c.root-root.ensures, ← c.clip.ensures)
