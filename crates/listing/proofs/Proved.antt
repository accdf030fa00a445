-- The statements of specs/, each with its proof.
use Rattle.listing.specs.Outcome.{OneToOne}
use Rattle.listing.specs.Rows.{EveryRow}
use Rattle.listing.proofs.OneToOne as answers
use Rattle.listing.proofs.Rows as rows

one_to_one : OneToOne
one_to_one = answers.one_to_one

every_row : EveryRow
every_row = rows.every_row
