-- What a function answers is the rule's, and nothing is lent to be written.
use mathlib.Core.Path.{refl}
use lib.Ieee.{add, sub, mul, div, lt, le, of_int, of_bits, to_bits, round}
use Rattle.root.specs.Value.{root as square_root}
use Rattle.track.specs.Cells.{nearest_cells, root, clip, weighed, off, square_if_pulling}
use Rattle.track.specs.Index.{below, at_most, middle, median, apart, square_if_counted}
use Rattle.decided.specs.Track.{Track}
use Rattle.decided.specs.WrongTrack.{TrackTried}
use Rattle.decided.proofs.Rules.{equal}

pub track : Track
track = record {
  nearest_cells = record { same = equal };
  weigh = record { same = equal };
  is_off = record { same = equal };
  count_cells = record { same = equal };
  count_off = record { same = equal };
  pulling_cells = record { same = equal };
  pulling_squares = record { same = equal };
  median = record { same = equal };
  is_apart = record { same = equal };
  index_squares = record { same = equal };
  part_count = record { same = equal };
  part_at = record { same = equal };
}

-- no wrong answer is the rule's: both are computed
pub track_tried : TrackTried
unfolding nearest_cells root clip weighed off square_if_pulling below at_most middle median apart square_if_counted square_root add sub mul div lt le of_int of_bits to_bits round
track_tried = refl
