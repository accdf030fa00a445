-- The proved table: P1 to P12 of document 01, in one list. A row is what is called on what, and what must be seen; the
-- rows on the tape stand in crates/tape/specs/Rows.antt, those of forward numbers in crates/forward/specs/Rows.antt.
use Rattle.std.specs.Prelude.{List, [], ◌∷◌}
use Rattle.tape.specs.Rows as tape
use Rattle.forward.specs.Rows as forward

pub data Row : Type 0 where
  on_tape : tape.Row → Row
  of_numbers : forward.Row → Row

abbrev pub Holds : Row → Type 0
Holds (on_tape r) = tape.Holds r
Holds (of_numbers r) = forward.Holds r

abbrev pub All : List Row → Type 0
All [] = Unit {0}
All (r ∷ rs) = Holds r × All rs

abbrev pub table : List Row
table =
    on_tape tape.P1_to_start
    ∷ on_tape tape.P1_to_mark
    ∷ on_tape tape.P2
    ∷ on_tape tape.P3
    ∷ on_tape tape.P4
    ∷ on_tape tape.P5
    ∷ on_tape tape.P6
    ∷ on_tape tape.P7_at_the_mark
    ∷ on_tape tape.P7_past_it
    ∷ on_tape tape.P8
    ∷ of_numbers forward.P9
    ∷ of_numbers forward.P10
    ∷ of_numbers forward.P11
    ∷ of_numbers forward.P12
    ∷ []

-- every row holds. Proved in proofs/Table.antt
abbrev pub ProvedTable : Type 0
ProvedTable = All table
