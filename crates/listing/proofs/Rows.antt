-- Every row holds: both sides are computed.
use mathlib.Core.Path.{refl}
use lib.Ieee.{of_int, of_bits, to_bits}
use Rattle.listing.specs.Rows.{EveryRow}
use Rattle.tape.specs.Steps.{step}

pub every_row : EveryRow
unfolding step of_int of_bits to_bits
every_row = (refl, refl, refl)
