-- Wrong answers that the promises of crate `track` rule out, two or more for each function. `Tried` says what a row is;
-- `TrackTried` is proved in proofs/Track.antt, by computation.
use Rattle.std.specs.Prelude.{ℕ, ◌≡◌, true, false, List, [], ◌∷◌, ◌++◌, Float}
use Rattle.std.specs.Float.{binary64}
use Rattle.std.specs.Float.Ieee.{div}
use Rattle.track.specs.Total.{total, float_total}
use Rattle.track.specs.Cells as cells
use Rattle.track.specs.Index as index
use Rattle.track.specs.Parts as parts
use Rattle.track.specs.declared.cells.Weighed.{Weighed}
use Rattle.track.specs.declared.parts.Part.{Part}
use Rattle.decided.specs.Tried.{Tried, tried, ruled_out, bits, a_bool}

-- ---- how answers are written out

abbrev pub a_number : ℕ → ℕ → Tried
a_number = tried (λ n. n ∷ [])

abbrev pub a_float : Float → Float → Tried
a_float = tried (λ x. bits x ∷ [])

abbrev pub a_weight : Weighed → Weighed → Tried
a_weight = tried (λ w. bits w.scaled ∷ bits w.root ∷ bits w.clip ∷ [])

-- from and end
abbrev pub a_part : Part → ℕ × ℕ → Tried
a_part p (from, end) = tried (λ p. p.from ∷ p.end ∷ []) p (record { from = from; end = end })

-- ---- the wrong answers

-- cells as long as they nominally are
abbrev pub one : Float
one = cells.float 1

-- 2.1 cells; 3.9; 4.25, which is exactly a quarter off; 1.5; and a tick more than 4.25
abbrev pub ticks : List ℕ
ticks = 168 ∷ 312 ∷ 340 ∷ 120 ∷ 341 ∷ []

-- nearest_cells: halfway, the fewer; rounded down; 9 of them
abbrev pub nearest_cells_tried : List Tried
nearest_cells_tried = a_number (cells.nearest_cells one 120) 1 ∷ a_number (cells.nearest_cells one 312) 3 ∷ a_number (cells.nearest_cells one 720) 9 ∷ []

-- weigh: the time itself, not over the root; a quarter squared, not over the cells; the cells for their root
abbrev pub weigh_tried : List Tried
weigh_tried =
    let right = cells.weighed one 312 in
    a_weight right (record { scaled = cells.in_cells 312; root = cells.root 4; clip = cells.clip 4 })
    ∷ a_weight right (record { scaled = right.scaled; root = cells.root 4; clip = cells.clip 1 })
    ∷ a_weight right (record { scaled = right.scaled; root = cells.float 4; clip = cells.clip 4 }) ∷ []

-- is_off: off at exactly a quarter; not off past it
abbrev pub is_off_tried : List Tried
is_off_tried = a_bool (cells.off one 340) true ∷ a_bool (cells.off one 341) false ∷ []

-- count_cells: without the one that is halfway; those of 4 cells, for those of 2
abbrev pub count_cells_tried : List Tried
count_cells_tried = a_number (total (cells.of_length one 2) ticks) 1 ∷ a_number (total (cells.of_length one 2) ticks) 3 ∷ []

-- count_off: those that pull, for those that are off; only those that are too long
abbrev pub count_off_tried : List Tried
count_off_tried = a_number (total (cells.one_if_off one) ticks) 3 ∷ a_number (total (cells.one_if_off one) ticks) 1 ∷ []

-- pulling_cells: the cells of all; how many pull
abbrev pub pulling_cells_tried : List Tried
pulling_cells_tried = a_number (total (cells.cells_if_pulling one) ticks) 16 ∷ a_number (total (cells.cells_if_pulling one) ticks) 3 ∷ []

-- a fraction of two whole numbers
abbrev pub fraction : ℕ → ℕ → Float
fraction m n = div binary64 (cells.float m) (cells.float n)

-- pulling_squares, of a sixteenth too much, an eighth too little and one that is off: with the one that is off; each over
-- its cells; their mean
abbrev pub pulling_squares_tried : List Tried
pulling_squares_tried =
    let right = float_total (cells.square_if_pulling one) (165 ∷ 310 ∷ 341 ∷ []) in
    a_float right (fraction 283 3200) ∷ a_float right (fraction 3 512) ∷ a_float right (fraction 5 512) ∷ []

-- median: the one at the middle place of the list; of two the upper; their mean
abbrev pub median_tried : List Tried
median_tried =
    a_number (index.median (5 ∷ 1 ∷ 4 ∷ [])) 1
    ∷ a_number (index.median (8700000 ∷ 8000000 ∷ [])) 8700000
    ∷ a_number (index.median (8700000 ∷ 8000000 ∷ [])) 8350000 ∷ []

-- is_apart: at exactly 1/64 of a turn; only above the median
abbrev pub is_apart_tried : List Tried
is_apart_tried = a_bool (index.apart 8125000 8000000) true ∷ a_bool (index.apart 7874999 8000000) false ∷ []

-- index_squares, of 1/256 of a turn too much, as much too little and one that is apart: with the one that is apart; the
-- square of their sum; their mean
abbrev pub index_squares_tried : List Tried
index_squares_tried =
    let right = float_total (index.square_if_counted 8000000 one) (8031250 ∷ 7968750 ∷ 8700000 ∷ []) in
    a_float right (fraction 6297 819200) ∷ a_float right (fraction 0 1) ∷ a_float right (fraction 1 65536) ∷ []

-- part_count: an empty part behind a whole one; the last part left out; one part of nothing
abbrev pub part_count_tried : List Tried
part_count_tried = a_number (parts.part_count 1024) 2 ∷ a_number (parts.part_count 1025) 1 ∷ a_number (parts.part_count 0) 1 ∷ []

-- part_at: one interval too many; past the end; the intervals before it as well
abbrev pub part_at_tried : List Tried
part_at_tried = a_part (parts.part 1025 0) (0, 1025) ∷ a_part (parts.part 1025 1) (1024, 2048) ∷ a_part (parts.part 1025 1) (0, 1025) ∷ []

abbrev pub track_tried : List Tried
track_tried =
    nearest_cells_tried ++ weigh_tried ++ is_off_tried ++ count_cells_tried ++ count_off_tried ++ pulling_cells_tried
    ++ pulling_squares_tried ++ median_tried ++ is_apart_tried ++ index_squares_tried ++ part_count_tried ++ part_at_tried

-- none of them is the rule's answer
abbrev pub TrackTried : Type 0
TrackTried = ruled_out track_tried ≡ true
