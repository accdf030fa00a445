-- The statements of specs/, each with its proof.
use Rattle.tape.specs.Answers.{OneToOne}
use Rattle.tape.specs.Kept.{StaleHandles, Revived, Serials, Recording}
use Rattle.tape.specs.Issued.{Sorting, TakenUpLater}
use Rattle.tape.specs.Passes.{EachEdge, OnlyAdjoints, EmptyRange, BothRanges, NeverUnsound}
use Rattle.tape.specs.Slices.{Turns, AnyCutting, GoesOn, AllOneSize, EachSlice}
use Rattle.tape.specs.Rows.{EveryRow, EveryChoice, EveryRoot, EverySlice, EveryHandle, EveryText}
use Rattle.tape.specs.Pairs.{Order}
use Rattle.tape.proofs.Issued as sorted
use Rattle.tape.proofs.OneToOne as answers
use Rattle.tape.proofs.Pairs as pairs
use Rattle.tape.proofs.Passes as passes
use Rattle.tape.proofs.Recording as recorded
use Rattle.tape.proofs.Revived as alive
use Rattle.tape.proofs.Rows as rows
use Rattle.tape.proofs.Serials as counted
use Rattle.tape.proofs.Slices as sliced
use Rattle.tape.proofs.Stale as stale
use Rattle.tape.proofs.Turns as turned

one_to_one : OneToOne
one_to_one = answers.one_to_one

stale_handles : StaleHandles
stale_handles = stale.stale_handles

revived : Revived
revived = alive.revived

serials : Serials
serials = counted.serials_kept

sorting : Sorting
sorting = sorted.sorting

taken_up_later : TakenUpLater
taken_up_later = sorted.taken_up_later

recording : Recording
recording = recorded.recording

each_edge : EachEdge
each_edge = passes.each_edge

only_adjoints : OnlyAdjoints
only_adjoints = passes.only_adjoints

empty_range : EmptyRange
empty_range = passes.empty_range

both_ranges : BothRanges
both_ranges = passes.both_ranges

never_unsound : NeverUnsound
never_unsound = passes.never_unsound

turns : Turns
turns = turned.turns

any_cutting : AnyCutting
any_cutting = sliced.any_cutting

goes_on : GoesOn
goes_on = sliced.goes_on_so

all_one_size : AllOneSize
all_one_size = sliced.all_one_size

each_slice : EachSlice
each_slice = sliced.each_slice

every_row : EveryRow
every_row = rows.every_row

every_choice : EveryChoice
every_choice = rows.every_choice

every_root : EveryRoot
every_root = rows.every_root

every_slice : EverySlice
every_slice = rows.every_slice

every_handle : EveryHandle
every_handle = rows.every_handle

every_text : EveryText
every_text = rows.every_text

order : Order
order = pairs.order
