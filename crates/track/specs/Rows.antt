-- What the rules come to: worked rows, proved in proofs/Rows.antt by computation.
use Rattle.std.specs.Prelude.{◌≡◌, true, false, [], ◌∷◌, map, from_bits, Float}
use Rattle.std.specs.Float.{binary64}
use Rattle.std.specs.Float.Ieee.{div}
use Rattle.track.specs.Total.{float_total}
use Rattle.track.specs.Cells.{float, cell, boundaries, nearest_cells, off, square_if_pulling}
use Rattle.track.specs.Index.{median, apart, nominal_turn, square_if_counted}
use Rattle.track.specs.Parts.{part_count, part}

-- cells as long as they nominally are
abbrev pub one : Float
one = float 1

pub record EveryRow : Type 0 where
  pub ticks_of_a_cell : cell ≡ float 80
  pub halfway_between : map (from_bits binary64) boundaries ≡ map (λ n. div binary64 (float n) (float 2)) (3 ∷ 5 ∷ 7 ∷ 9 ∷ 11 ∷ 13 ∷ 15 ∷ [])
  pub two_cells : nearest_cells one 168 ≡ 2
  pub four_cells : nearest_cells one 312 ≡ 4
  pub below_halfway : nearest_cells one 119 ≡ 1
  pub halfway : nearest_cells one 120 ≡ 2
  pub most_cells : nearest_cells one 645 ≡ 8
  -- 4 cells and exactly a quarter; and a tick more
  pub a_quarter : off one 340 ≡ false
  pub past_a_quarter : off one 341 ≡ true
  -- a sixteenth of a cell more than 2, an eighth less than 4, and one that is off
  pub two_squares : float_total (square_if_pulling one) (165 ∷ 310 ∷ 341 ∷ []) ≡ div binary64 (float 5) (float 256)
  pub of_three : median (5 ∷ 1 ∷ 4 ∷ []) ≡ 4
  pub of_two : median (8700000 ∷ 8000000 ∷ []) ≡ 8000000
  pub of_none : median [] ≡ 0
  pub not_apart : apart 8125000 8000000 ≡ false
  pub above : apart 8125001 8000000 ≡ true
  pub below : apart 7874999 8000000 ≡ true
  pub ticks_of_a_turn : nominal_turn ≡ float 8000000
  -- 1/256 of a turn more, as much less, and one that is apart
  pub two_times : float_total (square_if_counted 8000000 one) (8031250 ∷ 7968750 ∷ 8700000 ∷ []) ≡ div binary64 (float 2) (float 65536)
  pub two_parts : part_count 1025 ≡ 2
  pub whole_part : part 1025 0 ≡ record { from = 0; end = 1024 }
  pub last_part : part 1025 1 ≡ record { from = 1024; end = 1025 }
  pub no_part : part 1025 2 ≡ record { from = 1025; end = 1025 }
