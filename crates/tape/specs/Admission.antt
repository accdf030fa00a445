-- What is asked at the head of every call: refusals 1, 12 and 13. It is the first row of the refusal table and one
-- function of the code.
use Rattle.std.specs.Prelude.{ℕ, Bool, true, false, not, ◌&&◌, cond, List, [], ◌∷◌, ◌++◌, ltb, leb, eqb, length}
use Rattle.std.proofs.Math.Option.{Option, none, some}
use Rattle.tape.specs.Numbers.{Numbers}
use Rattle.tape.specs.Machine.{Arrays, Machine, most_nodes, slot, all}
use Rattle.tape.specs.declared.admission.Caller.{Caller}
use Rattle.tape.specs.declared.admission.Caller.TheVariants as caller
use Rattle.tape.specs.declared.admission.Lengths.{Lengths}
use Rattle.tape.specs.declared.errors.Refusal.{Refusal}
use Rattle.tape.specs.declared.errors.Refusal.TheVariants.{Misshapen, OutOfTurn, UnfitSlice}
use Rattle.tape.specs.declared.tape.Tape.{Tape}
use Rattle.tape.specs.Machine.{Walk}
use Rattle.std.specs.Prelude.{None, Some, Result, Ok, Err}

abbrev pub lengths : {N : Numbers} → Arrays N → Lengths
lengths A =
    record { value = length A.value; adjoint = length A.adjoint; serial = length A.serial; count = length A.count; child = length A.child; partial = length A.partial }

-- which calls are lent the arrays
abbrev pub is_lent : Caller → Bool
is_lent caller.Start = false
is_lent caller.Move = false
is_lent caller.Recording = true
is_lent caller.Clearing = true
is_lent caller.Passing = true
is_lent (caller.Slice n) = true
is_lent caller.Value = true
is_lent caller.Adjoint = true
is_lent caller.Liveness = true
is_lent caller.Listing = true

-- the array lengths fit one n, and n is at most 65,535
abbrev pub arrays_fit : Lengths → List Bool
arrays_fit n =
    leb n.value most_nodes
    ∷ eqb n.adjoint n.value
    ∷ eqb n.serial n.value
    ∷ eqb n.count n.value
    ∷ eqb n.child (slot n.value)
    ∷ eqb n.partial (slot n.value)
    ∷ []

-- a walk that is open has a node left, and none past the length
abbrev pub walk_fits : ℕ → Walk → Bool
walk_fits length None = true
walk_fits length (Some s) = ltb s.from s.end && leb s.end length

-- the length is at most n, the mark at most the length, the next serial is not 0, and a walk that is open fits
abbrev pub state_fits : ℕ → Tape → List Bool
state_fits n t =
    leb t.length n ∷ leb t.mark t.length ∷ not (eqb t.next 0) ∷ walk_fits t.length t.walk ∷ []

-- a call that is lent no tape array tests the state alone, with 65,535 for n
abbrev pub fitting : Bool → Lengths → Tape → Bool
fitting lent n t = cond lent (all (arrays_fit n ++ state_fits n.value t)) (all (state_fits most_nodes t))

abbrev pub fits : {N : Numbers} → Bool → Machine N → Bool
fits lent M = fitting lent (lengths M.lent) M.state

-- while a walk is open a slice, an adjoint read, the listing and start are answered
abbrev pub while_open : Caller → Bool
while_open caller.Start = true
while_open caller.Move = false
while_open caller.Recording = false
while_open caller.Clearing = false
while_open caller.Passing = false
while_open (caller.Slice n) = true
while_open caller.Value = false
while_open caller.Adjoint = true
while_open caller.Liveness = false
while_open caller.Listing = true

-- and while none is, everything but a slice
abbrev pub while_closed : Caller → Bool
while_closed caller.Start = true
while_closed caller.Move = true
while_closed caller.Recording = true
while_closed caller.Clearing = true
while_closed caller.Passing = true
while_closed (caller.Slice n) = false
while_closed caller.Value = true
while_closed caller.Adjoint = true
while_closed caller.Liveness = true
while_closed caller.Listing = true

abbrev pub in_turn : Walk → Caller → Bool
in_turn None k = while_closed k
in_turn (Some s) k = while_open k

-- a slice takes 1 to 65,535 nodes
abbrev pub slice_fits : Caller → Bool
slice_fits caller.Start = true
slice_fits caller.Move = true
slice_fits caller.Recording = true
slice_fits caller.Clearing = true
slice_fits caller.Passing = true
slice_fits (caller.Slice n) = ltb 0 n && leb n most_nodes
slice_fits caller.Value = true
slice_fits caller.Adjoint = true
slice_fits caller.Liveness = true
slice_fits caller.Listing = true

abbrev pub when : Bool → Refusal → Option Refusal
when hit r = cond hit (some r) none

-- the first that refuses decides
abbrev pub first : List (Option Refusal) → Option Refusal
first [] = none
first (none ∷ rows) = first rows
first (some r ∷ rows) = some r

-- what is asked at the head of every call, in this order
abbrev pub head_tests : Caller → Lengths → Tape → List (Option Refusal)
head_tests k n t =
    when (not (fitting (is_lent k) n t)) Misshapen
    ∷ when (not (in_turn t.walk k)) OutOfTurn
    ∷ when (not (slice_fits k)) UnfitSlice
    ∷ []

abbrev pub admission : Caller → Lengths → Tape → Option Refusal
admission k n t = first (head_tests k n t)

abbrev pub let_in : {N : Numbers} → Caller → Machine N → Option Refusal
let_in k M = admission k (lengths M.lent) M.state

-- as the code answers it
abbrev pub admitted : Option Refusal → Result (Unit {0}) Refusal
admitted none = Ok tt
admitted (some r) = Err r
