-- The statements of specs/, each with its proof.
use Rattle.text.specs.Rows.{EveryRow, ReadBack}
use Rattle.text.proofs.ReadBack as read_back
use Rattle.text.proofs.Rows as rows

every_row : EveryRow
every_row = rows.every_row

every_number : ReadBack
every_number = read_back.every_number
