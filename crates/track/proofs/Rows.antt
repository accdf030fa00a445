-- Every row: both sides are computed.
use Rattle.std.proofs.Common.{refl}
use lib.Ieee.{add, sub, mul, div, lt, le, of_int, of_bits, round}
use Rattle.root.specs.Value.{root as square_root}
use Rattle.track.specs.Cells.{nearest_cells, root, clip, weighed, off, square_if_pulling}
use Rattle.track.specs.Index.{below, at_most, middle, median, apart, square_if_counted}
use Rattle.track.specs.Rows.{EveryRow}

pub every_row : EveryRow
unfolding nearest_cells root clip weighed off square_if_pulling below at_most middle median apart square_if_counted add sub mul div lt le of_int of_bits square_root round
every_row = record {
  ticks_of_a_cell = refl;
  halfway_between = refl;
  two_cells = refl;
  four_cells = refl;
  below_halfway = refl;
  halfway = refl;
  most_cells = refl;
  a_quarter = refl;
  past_a_quarter = refl;
  two_squares = refl;
  of_three = refl;
  of_two = refl;
  of_none = refl;
  not_apart = refl;
  above = refl;
  below = refl;
  ticks_of_a_turn = refl;
  two_times = refl;
  two_parts = refl;
  whole_part = refl;
  last_part = refl;
  no_part = refl;
}
