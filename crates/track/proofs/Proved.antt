-- The statements of specs/, each with its proof.
use Rattle.track.specs.Rows.{EveryRow}
use Rattle.track.specs.Laws.{EachOnce, Middle, Covered}
use Rattle.track.proofs.Rows as rows
use Rattle.track.proofs.EachOnce as of_lengths
use Rattle.track.proofs.Middle as of_the_middle
use Rattle.track.proofs.Covered as of_parts

every_row : EveryRow
every_row = rows.every_row

each_once : EachOnce
each_once = of_lengths.each_once

in_the_middle : Middle
in_the_middle = of_the_middle.in_the_middle

covered : Covered
covered = of_parts.covered
