-- By computation.
use mathlib.Core.Path.{refl}
use lib.Ieee.{of_bits, round}
use Rattle.root.specs.Value.{root}
use Rattle.root.specs.Rows.{EveryRow}

pub every_row : EveryRow
unfolding root of_bits round
every_row = record {
  of_zero = refl;
  of_minus_zero = refl;
  of_infinity = refl;
  of_minus_infinity = refl;
  of_nan = refl;
  of_minus_one = refl;
  of_four = refl;
  of_two = refl;
  of_least = refl;
  of_greatest_subnormal = refl;
  of_least_normal = refl;
  of_greatest = refl;
}
