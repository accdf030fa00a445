-- Every public function of crate track.
use Rattle.decided.specs.Decided.{Decided}
use Rattle.track.specs.contracts as track
use Rattle.track.proofs as told_track

pub record Track : Type 0 where
  pub nearest_cells : Decided track.nearest_cells.ended told_track.nearest_cells.Reads.Learnt
  pub weigh : Decided track.weigh.ended told_track.weigh.Reads.Learnt
  pub is_off : Decided track.is_off.ended told_track.is_off.Reads.Learnt
  pub count_cells : Decided track.count_cells.ended told_track.count_cells.Reads.Learnt
  pub count_off : Decided track.count_off.ended told_track.count_off.Reads.Learnt
  pub pulling_cells : Decided track.pulling_cells.ended told_track.pulling_cells.Reads.Learnt
  pub pulling_squares : Decided track.pulling_squares.ended told_track.pulling_squares.Reads.Learnt
  pub median : Decided track.median.ended told_track.median.Reads.Learnt
  pub is_apart : Decided track.is_apart.ended told_track.is_apart.Reads.Learnt
  pub index_squares : Decided track.index_squares.ended told_track.index_squares.Reads.Learnt
  pub part_count : Decided track.part_count.ended told_track.part_count.Reads.Learnt
  pub part_at : Decided track.part_at.ended told_track.part_at.Reads.Learnt
