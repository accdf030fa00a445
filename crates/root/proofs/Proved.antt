-- The statements of specs/, each with its proof.
use Rattle.root.specs.Laws.{Meets, Only, EveryDouble}
use Rattle.root.specs.Rows.{EveryRow}
use Rattle.root.proofs.Value as value
use Rattle.root.proofs.Only as only_one
use Rattle.root.proofs.Grid as grid
use Rattle.root.proofs.Rows as rows

meets : Meets
meets = value.root_is

only : Only
only = only_one.only

every_double : EveryDouble
every_double = grid.has_units

every_row : EveryRow
every_row = rows.every_row
