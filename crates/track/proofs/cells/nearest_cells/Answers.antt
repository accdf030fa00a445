-- The boundaries, on the ticks in cells.
use Rattle.track.specs.Cells.{nearest_cells}
use Rattle.track.proofs.cells.nearest_cells.Goals as goal

pub returns : goal.returns
unfolding nearest_cells
returns c = c.nearest.ensures
