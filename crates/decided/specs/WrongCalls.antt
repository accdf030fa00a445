-- Wrong answers that the promises of crates `tape`, `expr`, `dual` and `listing` rule out, two or more for each
-- function, and three wrong programs for every call. `Tried` says what a row is; `CallsTried` is proved in
-- proofs/Wrong.antt, by computation.
use Rattle.std.specs.Prelude.{ℕ, ◌≡◌, Bool, true, false, cond, List, [], ◌∷◌, ◌++◌, map, Float, set, take, replicate, Result, Ok, Err, None, Some}
use Rattle.std.proofs.Math.Option.{Option, none, some}
use Rattle.std.specs.Borrow.{MutBor}
use Rattle.std.specs.Float.{nan, binary64}
use Rattle.std.specs.Float.Ieee.{div, neg as minus, of_bits}
use Rattle.tape.specs.Numbers.{floats}
use Rattle.tape.specs.Machine.{Arrays, Machine, arrays, machine, new_tape, Walk, with_walk, state, span, walk_left, lent, shared as to_be_read}
use Rattle.tape.specs.Handles.{Operand, plain, node, looked_up, counted_as, usable_as}
use Rattle.tape.specs.Operations.{UNKNOWN, ADD, SUBTRACT, MULTIPLY, DIVIDE, MAX, MIN, NEGATE, SUPPLIED_ONE, SUPPLIED_TWO, SQRT}
use Rattle.tape.specs.Walk.{Edge}
use Rattle.tape.specs.Listing.{listing}
use Rattle.tape.specs.Answers.{Answer, number, refused, done, read_value, recorded, counted, cut}
use Rattle.tape.specs.Calls.{Call, Move, start, stop, set_mark, reset_mark, rewind_to_mark, rewind_to_init, move, operate, clear, pass, open_pass, slice, backward, backward_to_mark, backward_mark_to_start, propagate_to_mark, propagate_mark_to_start, value_of, adjoint_of, is_live, list, issued, written, with_adjoints}
use Rattle.tape.specs.Admission.{lengths, admitted, let_in}
use Rattle.tape.specs.Refusals.{last_serial}
use Rattle.tape.specs.Steps.{step}
use Rattle.tape.specs.Kept.{fresh, after}
use Rattle.tape.specs.Rows.{float, sevens, handle, node_at, given, leaf, binary, with_open, four_calls}
use Rattle.tape.specs.declared.errors.Refusal.{Refusal}
use Rattle.tape.specs.declared.errors.Refusal.TheVariants.{Misshapen, UnknownOperation, Stale, Detached, Full, SerialsSpent, ListingTooLong, NeverIssued, OutOfTurn, UnfitSlice}
use Rattle.tape.specs.declared.node.Handle.{Handle}
use Rattle.tape.specs.declared.node.Lookup.{Lookup}
use Rattle.tape.specs.declared.node.Lookup.TheVariants as lookup
use Rattle.tape.specs.declared.admission.Caller.TheVariants as caller
use Rattle.tape.specs.declared.admission.Lengths.{Lengths}
use Rattle.tape.specs.declared.nodes.Nodes.{Nodes}
use Rattle.tape.specs.declared.nodes.NodesMut.{NodesMut}
use Rattle.tape.specs.declared.tape.Tape.{Tape}
use Rattle.expr.specs.Operators.{unused}
use Rattle.expr.specs.Operators as expr
use Rattle.listing.specs.Outcome.{listed}
use Rattle.decided.specs.Tried.{Tried, tried, ruled_out, bits}

-- ---- how answers are written out

abbrev pub a_number : ℕ → ℕ → Tried
a_number = tried (λ k. k ∷ [])

abbrev pub a_lookup : Lookup → Lookup → Tried
a_lookup = tried (λ l. counted_as l ∷ [])

abbrev pub Allowed : Type 0
Allowed = Result (Unit {0}) Refusal

abbrev pub allowed_shown : Allowed → List ℕ
allowed_shown (Ok tt) = 0 ∷ []
allowed_shown (Err r) = number r ∷ []

-- whether a handle is usable, or a call let in
abbrev pub an_allowed : Allowed → Allowed → Tried
an_allowed = tried allowed_shown

abbrev pub a_size : Lengths → Lengths → Tried
a_size = tried (λ n. n.value ∷ n.adjoint ∷ n.serial ∷ n.count ∷ n.child ∷ n.partial ∷ [])

-- what is behind the references to the five arrays
abbrev pub arrays_shown : Nodes → List ℕ
arrays_shown n =
    map bits (lent n []).value ++ (lent n []).serial ++ (lent n []).count ++ (lent n []).child ++ map bits (lent n []).partial

abbrev pub an_array_each : Nodes → Nodes → Tried
an_array_each = tried arrays_shown

abbrev pub written_behind : {A : Type 0} → List A → MutBor (List A)
written_behind xs = record { ref_ptr = (0, 0); ghost_name = 0; now = xs }

-- three values 1, 2 and 3 with these counts, and three edges
abbrev pub three_values : List ℕ → NodesMut
three_values counts =
    record { value = written_behind (map float (1 ∷ 2 ∷ 3 ∷ [])); serial = written_behind (7 ∷ 8 ∷ 9 ∷ []); count = written_behind counts; child = written_behind (0 ∷ 1 ∷ 0 ∷ []); partial = written_behind (map float (4 ∷ 5 ∷ 6 ∷ [])) }

abbrev pub walk_shown : Walk → List ℕ
walk_shown None = []
walk_shown (Some s) = s.from ∷ s.end ∷ []

abbrev pub state_shown : Tape → List ℕ
state_shown t = t.length ∷ t.mark ∷ cond t.active 1 0 ∷ t.next ∷ walk_shown t.walk

abbrev pub a_state : Tape → Tape → Tried
a_state = tried state_shown

abbrev pub handle_shown : Option Handle → List ℕ
handle_shown none = []
handle_shown (some h) = h.index ∷ h.serial ∷ []

abbrev pub shown : Answer floats × Machine floats → List ℕ
shown (a, M) =
    a.number ∷ bits a.value ∷ a.count ∷ a.left ∷ handle_shown a.handle ++ state_shown M.state
    ++ map bits M.lent.value ++ map bits M.lent.adjoint ++ M.lent.serial ++ M.lent.count ++ M.lent.child
    ++ map bits M.lent.partial

abbrev pub a_step : Answer floats × Machine floats → Answer floats × Machine floats → Tried
a_step = tried shown

abbrev pub a_listing : (Answer floats × Machine floats) × List ℕ → (Answer floats × Machine floats) × List ℕ → Tried
a_listing = tried (λ (x, out). shown x ++ out)

-- ---- what they are tried on

abbrev pub nought : Float
nought = floats.nought

abbrev pub one : Float
one = floats.one

abbrev pub over : ℕ → ℕ → Float
over a b = div binary64 (float a) (float b)

-- a tape of four nodes' room, 9 the next serial
abbrev pub kept : ℕ → ℕ → Bool → Machine floats
kept length mark active = machine (state length mark active 9) (sevens 4)

-- three nodes, mark 1, active: a move should not leave this state
abbrev pub a_move : Move → Tape → Tried
a_move m wrong = a_step (step (move m) (kept 3 1 true)) (done, machine wrong (sevens 4))

-- five adjoints where four nodes have room
abbrev pub longer : Arrays floats
longer =
    arrays (sevens 4).value (sevens 5).adjoint (sevens 4).serial (sevens 4).count (sevens 4).child (sevens 4).partial

-- leaves 3 and 2, and room for one more node
abbrev pub two : Machine floats
two = after (move start ∷ leaf (float 3) ∷ leaf (float 2) ∷ []) (fresh (sevens 3))

abbrev pub x0 : Operand floats
x0 = node_at 0

abbrev pub x1 : Operand floats
x1 = node_at 1

-- the index of the second leaf with the serial of the first, and with one that no node has
abbrev pub stale : Operand floats
stale = node (handle 1 1)

abbrev pub made_up : Operand floats
made_up = node (handle 1 9)

abbrev pub to : ℕ → Float → Edge floats
to i p = record { child = i; weight = p }

-- two nodes where two have room
abbrev pub full : Machine floats
full = after (move start ∷ leaf (float 3) ∷ leaf (float 2) ∷ []) (fresh (sevens 2))

-- no serial left but the last
abbrev pub spent : Machine floats
spent = machine (state 2 0 true last_serial) two.lent

-- on `two`: a third node of this value, with these edges
abbrev pub recording : Float → List (Edge floats) → Answer floats × Machine floats
recording v es = (recorded v (issued two.state), written two v es)

-- such a node with another adjoint, or another partial in its first slot
abbrev pub with_adjoint : Float → Answer floats × Machine floats → Answer floats × Machine floats
with_adjoint a (x, M) = (x, with_adjoints M (set M.lent.adjoint 2 a))

abbrev pub with_partial : Float → Answer floats × Machine floats → Answer floats × Machine floats
with_partial p (x, M) =
    (x, machine M.state (arrays M.lent.value M.lent.adjoint M.lent.serial M.lent.count M.lent.child (set M.lent.partial 4 p)))

-- 5 - x1 with its one edge in the node's second slot
abbrev pub in_second_slot : Answer floats × Machine floats
in_second_slot =
    let (x, M) = recording (float 3) (to 1 (minus one) ∷ []) in
    (x, machine M.state (arrays M.lent.value M.lent.adjoint M.lent.serial M.lent.count (replicate 5 7 ++ (1 ∷ [])) (replicate 5 (float 7) ++ (minus one ∷ []))))

-- the listing's four nodes, whose adjoints are 3, 3, 1 and 1, with room for a fifth, and the mark at m
abbrev pub marked : ℕ → Machine floats
marked m = machine (state 4 m true 5) (after four_calls (fresh (sevens 5))).lent

-- the same with mark 2 and a walk of nodes from end - 1 down to from open
abbrev pub walking : ℕ → ℕ → Machine floats
walking from end = with_open from end (marked 2)

-- a pass that leaves these adjoints
abbrev pub passed : Machine floats → ℕ → List ℕ → Answer floats × Machine floats
passed M edges adjoints = (counted edges, with_adjoints M (map float adjoints))

-- ---- wrong answers: tape

-- number: two refusals of one number; 3 for a handle that was never issued; 0, an answer's number
abbrev pub number_tried : List Tried
number_tried = a_number (number Full) (number SerialsSpent)
    ∷ a_number (number NeverIssued) (number Stale)
    ∷ a_number (number Misshapen) 0 ∷ []

-- lookup: live, by the serial of another index; live, with serial 0 where 0 is stored; stale, with serial 0; stale, with
-- the next serial; never issued, past the length with a serial that was given out; never issued, where the handle is
-- live
abbrev pub lookup_tried : List Tried
lookup_tried = a_lookup (looked_up (state 2 0 true 10) (7 ∷ 9 ∷ []) (handle 1 7)) lookup.Live
    ∷ a_lookup (looked_up (state 1 0 true 10) (0 ∷ []) (handle 0 0)) lookup.Live
    ∷ a_lookup (looked_up (state 1 0 true 10) (7 ∷ []) (handle 0 0)) lookup.Stale
    ∷ a_lookup (looked_up (state 1 0 true 10) (7 ∷ []) (handle 0 10)) lookup.Stale
    ∷ a_lookup (looked_up (state 1 0 true 10) (7 ∷ []) (handle 9 9)) lookup.NeverIssued
    ∷ a_lookup (looked_up (state 1 0 true 10) (10 ∷ []) (handle 0 10)) lookup.NeverIssued ∷ []

-- usable: a handle past the length taken, whose serial is stored there; a stale one refused 4, or 11; one that was
-- never issued refused 3
abbrev pub usable_tried : List Tried
usable_tried = an_allowed (usable_as (state 1 0 true 10) (7 ∷ 9 ∷ []) (handle 1 9)) (Ok tt)
    ∷ an_allowed (usable_as (state 2 0 true 10) (7 ∷ 9 ∷ []) (handle 1 7)) (Err Detached)
    ∷ an_allowed (usable_as (state 2 0 true 10) (7 ∷ 9 ∷ []) (handle 1 7)) (Err NeverIssued)
    ∷ an_allowed (usable_as (state 2 0 true 10) (7 ∷ 9 ∷ []) (handle 1 10)) (Err Stale) ∷ []

-- Lengths::of: the capacity in place of the adjoints' own length; children counted by the node
abbrev pub lengths_of_tried : List Tried
lengths_of_tried =
    a_size (lengths longer) (record { value = 4; adjoint = 4; serial = 4; count = 4; child = 8; partial = 8 })
    ∷ a_size (lengths (sevens 4)) (record { value = 4; adjoint = 4; serial = 4; count = 4; child = 4; partial = 8 })
    ∷ []

-- NodesMut::shared: the partials in the place of the values, where both have three entries; no children; a count changed
abbrev pub shared_tried : List Tried
shared_tried =
    an_array_each (to_be_read (three_values (0 ∷ 1 ∷ 1 ∷ []))) (to_be_read (record (three_values (0 ∷ 1 ∷ 1 ∷ [])) { value = written_behind (map float (4 ∷ 5 ∷ 6 ∷ [])) }))
    ∷ an_array_each (to_be_read (three_values (0 ∷ 1 ∷ 1 ∷ []))) (to_be_read (record (three_values (0 ∷ 1 ∷ 1 ∷ [])) { child = written_behind [] }))
    ∷ an_array_each (to_be_read (three_values (0 ∷ 1 ∷ 1 ∷ []))) (to_be_read (three_values (0 ∷ 1 ∷ 2 ∷ []))) ∷ []

-- new: an active tape; a first serial of 0; a walk open
abbrev pub new_tried : List Tried
new_tried = a_state new_tape (state 0 0 true 1)
    ∷ a_state new_tape (state 0 0 false 0)
    ∷ a_state new_tape (with_walk (Some (span 0 0)) new_tape) ∷ []

-- start_recording: serials that begin anew; the mark kept; a walk that is open kept; start refused 12 for it
abbrev pub start_recording_tried : List Tried
start_recording_tried = a_move start (state 0 0 true 1)
    ∷ a_move start (state 0 1 true 9)
    ∷ a_step (step (move start) (walking 1 4)) (done, machine (with_walk (Some (span 1 4)) (state 0 0 true 5)) (marked 2).lent)
    ∷ a_step (step (move start) (walking 1 4)) (refused OutOfTurn, walking 1 4) ∷ []

-- walking: a walk with no node left kept open; another walk kept
abbrev pub walking_tried : List Tried
walking_tried = a_state (with_walk (walk_left (span 1 1)) (marked 2).state) (walking 1 1).state
    ∷ a_state (with_walk (walk_left (span 1 2)) (walking 1 4).state) (walking 1 4).state ∷ []

-- stop_recording: the nodes dropped; a refusal where the tape is inactive already
abbrev pub stop_recording_tried : List Tried
stop_recording_tried = a_move stop (state 0 0 false 9)
    ∷ a_step (step (move stop) (kept 3 1 false)) (refused Misshapen, kept 3 1 false) ∷ []

-- set_mark: the mark on the last node; the length lowered
abbrev pub set_mark_tried : List Tried
set_mark_tried = a_move set_mark (state 3 2 true 9)
    ∷ a_move set_mark (state 1 1 true 9) ∷ []

-- reset_mark: the mark at the length; the nodes dropped
abbrev pub reset_mark_tried : List Tried
reset_mark_tried = a_move reset_mark (state 3 3 true 9)
    ∷ a_move reset_mark (state 0 0 true 9) ∷ []

-- rewind_to_mark: the mark reset too; a mark over the length let through, which would lengthen the tape
abbrev pub rewind_to_mark_tried : List Tried
rewind_to_mark_tried = a_move rewind_to_mark (state 1 0 true 9)
    ∷ a_step (step (move rewind_to_mark) (kept 1 2 true)) (done, kept 2 2 true) ∷ []

-- rewind_to_init: the tape active after it; the next serial lowered
abbrev pub rewind_to_init_tried : List Tried
rewind_to_init_tried = a_step (step (move rewind_to_init) (kept 3 1 false)) (done, kept 0 0 true)
    ∷ a_move rewind_to_init (state 0 0 true 1) ∷ []

-- admit: a length over the capacity let through; an array longer than it has to be; a move refused for the arrays,
-- which it is not lent; while a walk is open a value read let through, and an adjoint read refused; 13 before 12; a
-- walk of one node refused 1, and one past the length let through; a slice of more nodes than there are refused
abbrev pub admit_tried : List Tried
admit_tried = an_allowed (admitted (let_in caller.Recording (kept 5 0 true))) (Ok tt)
    ∷ an_allowed (admitted (let_in caller.Listing (machine (state 1 0 true 9) longer))) (Ok tt)
    ∷ an_allowed (admitted (let_in caller.Move (kept 5 0 true))) (Err Misshapen)
    ∷ an_allowed (admitted (let_in caller.Value (walking 1 4))) (Ok tt)
    ∷ an_allowed (admitted (let_in caller.Adjoint (walking 1 4))) (Err OutOfTurn)
    ∷ an_allowed (admitted (let_in (caller.Slice 0) (marked 2))) (Err UnfitSlice)
    ∷ an_allowed (admitted (let_in (caller.Slice 1) (walking 3 4))) (Err Misshapen)
    ∷ an_allowed (admitted (let_in caller.Start (walking 1 5))) (Ok tt)
    ∷ an_allowed (admitted (let_in (caller.Slice 65535) (walking 3 4))) (Err UnfitSlice) ∷ []

-- ---- wrong answers: expr

-- record: the new node's adjoint as its value; a right handle that is not live refused at NEGATE, which does not use
-- it; 11 before 3 where the left operand is stale and the right one was never issued, and 3 before 11 where they change
-- places; an operation past the table recorded; a node recorded past the capacity, or with the last serial
abbrev pub record_tried : List Tried
record_tried =
    a_step (step (binary NEGATE x0 unused) two) (with_adjoint (minus (float 3)) (recording (minus (float 3)) (to 0 (minus one) ∷ [])))
    ∷ a_step (step (binary NEGATE x0 stale) two) (refused Stale, two)
    ∷ a_step (step (binary ADD stale made_up) two) (refused NeverIssued, two)
    ∷ a_step (step (binary ADD made_up stale) two) (refused Stale, two)
    ∷ a_step (step (binary UNKNOWN x0 x1) two) (recording nan [])
    ∷ a_step (step (binary NEGATE x0 unused) full) (recorded (minus (float 3)) (issued full.state), written full (minus (float 3)) (to 0 (minus one) ∷ []))
    ∷ a_step (step (expr.new_leaf one) spent) (recorded one (issued spent.state), written spent one []) ∷ []

-- new_leaf: an adjoint left by the slot's last tenant; an unused edge slot cleared
abbrev pub new_leaf_tried : List Tried
new_leaf_tried = a_step (step (expr.new_leaf (float 5)) two) (with_adjoint (float 7) (recording (float 5) []))
    ∷ a_step (step (expr.new_leaf (float 5)) two) (with_partial nought (recording (float 5) [])) ∷ []

-- put_on_tape: an edge to the node that the value came from; a handle that is not live let through
abbrev pub put_on_tape_tried : List Tried
put_on_tape_tried = a_step (step (expr.put_on_tape x0) two) (recording (float 3) (to 0 one ∷ []))
    ∷ a_step (step (expr.put_on_tape stale) two) (recording (float 2) []) ∷ []

-- record ADD: one edge for equal operands; an edge for a plain number
abbrev pub add_tried : List Tried
add_tried = a_step (step (binary ADD x0 x0) two) (recording (float 6) (to 0 (float 2) ∷ []))
    ∷ a_step (step (binary ADD x0 (plain (float 2))) two) (recording (float 5) (to 0 one ∷ to 0 one ∷ [])) ∷ []

-- record SUBTRACT: the right partial as 1; a right edge at slot 2i + 1 where the left operand is a number
abbrev pub subtract_tried : List Tried
subtract_tried = a_step (step (binary SUBTRACT x0 x1) two) (recording one (to 0 one ∷ to 1 one ∷ []))
    ∷ a_step (step (binary SUBTRACT (plain (float 5)) x1) two) in_second_slot ∷ []

-- record MULTIPLY: the partials exchanged; equal operands as one edge of twice the partial
abbrev pub multiply_tried : List Tried
multiply_tried = a_step (step (binary MULTIPLY x0 x1) two) (recording (float 6) (to 0 (float 3) ∷ to 1 (float 2) ∷ []))
    ∷ a_step (step (binary MULTIPLY x0 x0) two) (recording (float 9) (to 0 (float 6) ∷ [])) ∷ []

-- record DIVIDE: the left partial as l / r; a refusal at r = 0
abbrev pub divide_tried : List Tried
divide_tried =
    a_step (step (binary DIVIDE x0 x1) two) (recording (over 3 2) (to 0 (over 3 2) ∷ to 1 (minus (over 3 4)) ∷ []))
    ∷ a_step (step (binary DIVIDE x0 (plain nought)) two) (refused UnknownOperation, two) ∷ []

-- record MAX: both partials 0 at a tie; the right one 1 there; the number in place of a NaN on the right
abbrev pub max_tried : List Tried
max_tried = a_step (step (binary MAX x0 x0) two) (recording (float 3) (to 0 nought ∷ to 0 nought ∷ []))
    ∷ a_step (step (binary MAX x0 x0) two) (recording (float 3) (to 0 nought ∷ to 0 one ∷ []))
    ∷ a_step (step (binary MAX x0 (plain nan)) two) (recording (float 3) (to 0 nought ∷ [])) ∷ []

-- record MIN: both partials 0 at a tie; the right one 1 there; the number in place of a NaN on the right
abbrev pub min_tried : List Tried
min_tried = a_step (step (binary MIN x0 x0) two) (recording (float 3) (to 0 nought ∷ to 0 nought ∷ []))
    ∷ a_step (step (binary MIN x0 x0) two) (recording (float 3) (to 0 nought ∷ to 0 one ∷ []))
    ∷ a_step (step (binary MIN x0 (plain nan)) two) (recording (float 3) (to 0 nought ∷ [])) ∷ []

-- record NEGATE: -x, which is -0.0 at +0.0; a partial of 1
abbrev pub negate_tried : List Tried
negate_tried = a_step (step (binary NEGATE (plain nought) unused) two) (recording (minus nought) [])
    ∷ a_step (step (binary NEGATE x0 unused) two) (recording (minus (float 3)) (to 0 one ∷ [])) ∷ []

-- record SUPPLIED_ONE: the supplied partial stored where the operand is a number; a handle that is not live let
-- through, since its value is not used
abbrev pub supplied_one_tried : List Tried
supplied_one_tried =
    a_step (step (operate SUPPLIED_ONE (plain (float 5)) unused (given (float 9) (float 8) nought)) two) (with_partial (float 8) (recording (float 9) []))
    ∷ a_step (step (operate SUPPLIED_ONE stale unused (given (float 9) (float 8) nought)) two) (recording (float 9) (to 1 (float 8) ∷ [])) ∷ []

-- record SUPPLIED_TWO: the right edge before the left; the value reckoned from the operands
abbrev pub supplied_two_tried : List Tried
supplied_two_tried =
    a_step (step (operate SUPPLIED_TWO x0 x1 (given (float 9) (float 8) (float 4))) two) (recording (float 9) (to 1 (float 4) ∷ to 0 (float 8) ∷ []))
    ∷ a_step (step (operate SUPPLIED_TWO x0 x1 (given (float 9) (float 8) (float 4))) two) (recording (float 5) (to 0 (float 8) ∷ to 1 (float 4) ∷ [])) ∷ []

-- record SQRT: the partial as 0.5 / x; as 1 / s; the operation refused, as it was before the table had it; a right
-- handle that is not live refused
abbrev pub sqrt_tried : List Tried
sqrt_tried =
    let s = floats.root (float 3) in
    a_step (step (binary SQRT x0 unused) two) (recording s (to 0 (over 1 6) ∷ []))
    ∷ a_step (step (binary SQRT x0 unused) two) (recording s (to 0 (div binary64 one s) ∷ []))
    ∷ a_step (step (binary SQRT x0 unused) two) (refused UnknownOperation, two)
    ∷ a_step (step (binary SQRT x0 stale) two) (refused Stale, two) ∷ []

-- ---- wrong answers: dual

-- value: a number refused 4; the value behind a handle that is not live; 3 for one that was never issued
abbrev pub value_tried : List Tried
value_tried = a_step (step (value_of (plain (float 5))) (marked 2)) (refused Detached, marked 2)
    ∷ a_step (step (value_of stale) (marked 2)) (read_value (float 2), marked 2)
    ∷ a_step (step (value_of made_up) (marked 2)) (refused Stale, marked 2) ∷ []

-- adjoint: a handle that is not live refused 4; 11 for a stale one; 0.0 for a number, which is refused
abbrev pub adjoint_tried : List Tried
adjoint_tried = a_step (step (adjoint_of stale) (marked 2)) (refused Detached, marked 2)
    ∷ a_step (step (adjoint_of stale) (marked 2)) (refused NeverIssued, marked 2)
    ∷ a_step (step (adjoint_of (plain (float 5))) (marked 2)) (read_value nought, marked 2) ∷ []

-- is_live: a refusal for a handle that is not live; a number that is live; a stale handle as a number; one that was
-- never issued as stale
abbrev pub is_live_tried : List Tried
is_live_tried = a_step (step (is_live stale) (marked 2)) (refused Stale, marked 2)
    ∷ a_step (step (is_live (plain (float 5))) (marked 2)) (counted 1, marked 2)
    ∷ a_step (step (is_live stale) (marked 2)) (counted 0, marked 2)
    ∷ a_step (step (is_live made_up) (marked 2)) (counted 2, marked 2) ∷ []

-- reset_adjoints: adjoints past the length cleared; -0.0 for +0.0
abbrev pub reset_adjoints_tried : List Tried
reset_adjoints_tried = a_step (step clear (marked 2)) (done, with_adjoints (marked 2) (replicate 5 nought))
    ∷ a_step (step clear (marked 2)) (done, with_adjoints (marked 2) (replicate 4 (minus nought) ++ (float 7 ∷ [])))
    ∷ []

-- backward: a walk from the end, wherever the root stands; the adjoints cleared first; 3 for a root that was never
-- issued
abbrev pub backward_tried : List Tried
backward_tried = a_step (step (pass (backward (node_at 2))) (marked 2)) (passed (marked 2) 4 (8 ∷ 9 ∷ 2 ∷ 1 ∷ 7 ∷ []))
    ∷ a_step (step (pass (backward (node_at 2))) (marked 2)) (passed (marked 2) 2 (2 ∷ 3 ∷ 1 ∷ 0 ∷ 7 ∷ []))
    ∷ a_step (step (pass (backward made_up)) (marked 2)) (refused Stale, marked 2) ∷ []

-- backward_to_mark: 1.0 added to the root's adjoint; a walk that begins at the root
abbrev pub backward_to_mark_tried : List Tried
backward_to_mark_tried =
    a_step (step (pass (backward_to_mark (node_at 3))) (marked 2)) (passed (marked 2) 4 (11 ∷ 12 ∷ 3 ∷ 2 ∷ 7 ∷ []))
    ∷ a_step (step (pass (backward_to_mark (node_at 2))) (marked 2)) (passed (marked 2) 2 (5 ∷ 6 ∷ 1 ∷ 1 ∷ 7 ∷ [])) ∷ []

-- backward_mark_to_start: the edges of a root past the mark walked; the node at the mark walked too
abbrev pub backward_mark_to_start_tried : List Tried
backward_mark_to_start_tried =
    a_step (step (pass (backward_mark_to_start (node_at 3))) (marked 2)) (passed (marked 2) 2 (4 ∷ 3 ∷ 2 ∷ 1 ∷ 7 ∷ []))
    ∷ a_step (step (pass (backward_mark_to_start (node_at 0))) (marked 2)) (passed (marked 2) 2 (3 ∷ 6 ∷ 1 ∷ 1 ∷ 7 ∷ [])) ∷ []

-- propagate_to_mark: the nodes below the mark walked too; the range walked from its lowest index up
abbrev pub propagate_to_mark_tried : List Tried
propagate_to_mark_tried =
    a_step (step (pass propagate_to_mark) (marked 3)) (passed (marked 3) 4 (8 ∷ 9 ∷ 2 ∷ 1 ∷ 7 ∷ []))
    ∷ a_step (step (pass propagate_to_mark) (marked 2)) (passed (marked 2) 4 (6 ∷ 6 ∷ 2 ∷ 1 ∷ 7 ∷ [])) ∷ []

-- propagate_mark_to_start: a count of 0; a count of the nodes
abbrev pub propagate_mark_to_start_tried : List Tried
propagate_mark_to_start_tried =
    a_step (step (pass propagate_mark_to_start) (marked 3)) (passed (marked 3) 0 (5 ∷ 6 ∷ 1 ∷ 1 ∷ 7 ∷ []))
    ∷ a_step (step (pass propagate_mark_to_start) (marked 3)) (passed (marked 3) 3 (5 ∷ 6 ∷ 1 ∷ 1 ∷ 7 ∷ [])) ∷ []

-- run: the pass to the mark for the one from it; a pass without a root for one with it; backward for the pass from the
-- mark
abbrev pub run_tried : List Tried
run_tried =
    a_step (step (pass propagate_mark_to_start) (marked 3)) (step (pass propagate_to_mark) (marked 3))
    ∷ a_step (step (pass (backward_to_mark (node_at 3))) (marked 2)) (step (pass propagate_mark_to_start) (marked 2))
    ∷ a_step (step (pass (backward (node_at 2))) (marked 2)) (step (pass (backward_mark_to_start (node_at 2))) (marked 2)) ∷ []

-- an opening or a slice that leaves these adjoints and nodes
abbrev pub cut_to : ℕ → ℕ → List ℕ → Machine floats → Answer floats × Machine floats
cut_to edges left adjoints M = (cut edges left, with_adjoints M (map float adjoints))

-- open_pass: nothing left open, as after the pass in one go; the range walked at once, and left all the same; the seed
-- left to the first slice; the range told and left without its last node; an empty range left open
abbrev pub open_pass_tried : List Tried
open_pass_tried =
    a_step (step (open_pass propagate_to_mark) (marked 2)) (step (pass propagate_to_mark) (marked 2))
    ∷ a_step (step (open_pass propagate_to_mark) (marked 2)) (cut_to 0 2 (8 ∷ 9 ∷ 2 ∷ 1 ∷ 7 ∷ []) (walking 2 4))
    ∷ a_step (step (open_pass (backward (node_at 1))) (marked 2)) (cut_to 0 2 (3 ∷ 3 ∷ 1 ∷ 1 ∷ 7 ∷ []) (walking 0 2))
    ∷ a_step (step (open_pass (backward (node_at 1))) (marked 2)) (cut_to 0 1 (3 ∷ 1 ∷ 1 ∷ 1 ∷ 7 ∷ []) (walking 1 2))
    ∷ a_step (step (open_pass propagate_mark_to_start) (marked 0)) (cut 0 0, machine (with_walk (Some (span 0 0)) (marked 0).state) (marked 0).lent) ∷ []

-- take_slice: one node too far; nodes left counted before it; from the bottom of what is left; more than is left
-- refused; with none open an empty walk continued
abbrev pub take_slice_tried : List Tried
take_slice_tried =
    a_step (step (slice 1) (walking 0 4)) (cut_to 4 2 (8 ∷ 9 ∷ 2 ∷ 1 ∷ 7 ∷ []) (walking 0 2))
    ∷ a_step (step (slice 1) (walking 0 4)) (cut_to 2 4 (4 ∷ 3 ∷ 2 ∷ 1 ∷ 7 ∷ []) (walking 0 3))
    ∷ a_step (step (slice 1) (walking 2 4)) (cut_to 2 1 (5 ∷ 6 ∷ 1 ∷ 1 ∷ 7 ∷ []) (walking 3 4))
    ∷ a_step (step (slice 2) (walking 3 4)) (refused UnfitSlice, walking 3 4)
    ∷ a_step (step (slice 1) (marked 2)) (cut 0 0, marked 2) ∷ []

-- ---- wrong answers: listing

-- list: bytes written where the listing does not fit; a listing refused that fits to the last byte; the bytes after it
-- cleared; the bytes left as they were
abbrev pub list_tried : List Tried
list_tried =
    a_listing (listed (marked 2) (replicate 10 120)) ((refused ListingTooLong, marked 2), take 10 (listing (marked 2)))
    ∷ a_listing (listed (marked 2) (replicate 220 120)) ((refused ListingTooLong, marked 2), replicate 220 120)
    ∷ a_listing (listed (marked 2) (replicate 221 120)) ((counted 220, marked 2), listing (marked 2) ++ (0 ∷ []))
    ∷ a_listing (listed (marked 2) (replicate 220 120)) ((counted 220, marked 2), replicate 220 120) ∷ []

-- bits_of: a NaN with another pattern; one bit pattern for both zeros
abbrev pub bits_of_tried : List Tried
bits_of_tried = a_number (bits nan) 0xfff8_0000_0000_0000
    ∷ a_number (bits (minus nought)) (bits nought) ∷ []

-- float_of: another number for a NaN's pattern; the sign of a zero lost; the bits read as a whole number
abbrev pub float_of_tried : List Tried
float_of_tried = a_number (bits (of_bits binary64 0xfff0_0000_0000_0001)) (bits (of_bits binary64 0xfff0_0000_0000_0000))
    ∷ a_number (bits (of_bits binary64 0x8000_0000_0000_0000)) (bits nought)
    ∷ a_number (bits (of_bits binary64 1)) (bits (float 1)) ∷ []

-- ---- wrong answers: every call

-- each pass, where it changes the adjoints
abbrev pub passes : List (Call floats × Machine floats)
passes =
    (pass (backward (node_at 2)), marked 2)
    ∷ (pass (backward_to_mark (node_at 3)), marked 2)
    ∷ (pass (backward_mark_to_start (node_at 0)), marked 2)
    ∷ (pass propagate_to_mark, marked 2)
    ∷ (pass propagate_mark_to_start, marked 3)
    ∷ []

-- each call that changes the machine
abbrev pub changes : List (Call floats × Machine floats)
changes =
    map (λ m. (move m, kept 3 1 true)) (start ∷ stop ∷ set_mark ∷ reset_mark ∷ rewind_to_mark ∷ rewind_to_init ∷ [])
    ++ ((binary MULTIPLY x0 x1, two) ∷ (clear, marked 2) ∷ (open_pass (backward (node_at 2)), marked 2)
    ∷ (slice 1, walking 0 4)
    ∷ passes)

-- and those that read it
abbrev pub readings : List (Call floats × Machine floats)
readings = (value_of x0, marked 2) ∷ (adjoint_of x0, marked 2) ∷ (is_live x0, marked 2) ∷ (list 220, marked 2) ∷ []

-- a refusal, always
abbrev pub refuses_tried : List Tried
refuses_tried = map (λ (c, M). a_step (step c M) (refused Misshapen, M)) (changes ++ readings)

-- the right answer, and the machine left as it was
abbrev pub untouched_tried : List Tried
untouched_tried = map (λ (c, M). a_step (step c M) ((step c M).0, M)) changes

-- of a pass: the right count, and each live adjoint x
abbrev pub each_adjoint : Float → List Tried
each_adjoint x =
    map (λ (c, M). a_step (step c M) ((step c M).0, with_adjoints M (replicate 4 x ++ (float 7 ∷ [])))) passes

abbrev pub nought_or_one_tried : List Tried
nought_or_one_tried = each_adjoint nought ++ each_adjoint one

abbrev pub calls_tried : List Tried
calls_tried =
    number_tried ++ lookup_tried ++ usable_tried ++ lengths_of_tried ++ shared_tried ++ new_tried ++ start_recording_tried
    ++ stop_recording_tried
    ++ set_mark_tried ++ reset_mark_tried ++ rewind_to_mark_tried ++ rewind_to_init_tried ++ admit_tried ++ walking_tried
    ++ record_tried ++ new_leaf_tried ++ put_on_tape_tried ++ add_tried ++ subtract_tried
    ++ multiply_tried ++ divide_tried ++ max_tried ++ min_tried ++ negate_tried
    ++ supplied_one_tried ++ supplied_two_tried ++ sqrt_tried ++ value_tried ++ adjoint_tried ++ is_live_tried
    ++ reset_adjoints_tried ++ backward_tried ++ backward_to_mark_tried ++ backward_mark_to_start_tried
    ++ propagate_to_mark_tried
    ++ propagate_mark_to_start_tried ++ run_tried ++ open_pass_tried ++ take_slice_tried ++ list_tried ++ bits_of_tried ++ float_of_tried ++ refuses_tried ++ untouched_tried
    ++ nought_or_one_tried

-- none of them is the rule's answer
abbrev pub CallsTried : Type 0
CallsTried = ruled_out calls_tried ≡ true
