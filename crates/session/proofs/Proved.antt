-- The statements of specs/, each with its proof.
use Rattle.session.specs.Lines.{OneReader}
use Rattle.session.specs.Rows.{EveryRow}
use Rattle.session.proofs.Reader as readers
use Rattle.session.proofs.Rows as rows

one_reader : OneReader
one_reader = readers.one_reader

every_row : EveryRow
every_row = rows.every_row
