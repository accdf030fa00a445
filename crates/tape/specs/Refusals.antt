-- The refusals stand in one table, in order: the first row that refuses decides.
use Rattle.std.specs.Prelude.{ℕ, Bool, true, false, not, ◌&&◌, cond, List, [], ◌∷◌, map, ltb, eqb, length}
use Rattle.std.proofs.Math.Option.{Option, none, some}
use Rattle.tape.specs.Numbers.{Numbers}
use Rattle.tape.specs.Machine.{Machine, capacity, all}
use Rattle.tape.specs.Admission.{when, first, let_in}
use Rattle.tape.specs.Handles.{Operand, live, amiss, handles, any_plain}
use Rattle.tape.specs.Operations.{known, used}
use Rattle.tape.specs.Walk.{sound}
use Rattle.tape.specs.Listing.{listing}
use Rattle.tape.specs.Calls.{Move, start, stop, set_mark, reset_mark, rewind_to_mark, rewind_to_init, Pass, Call, move, operate, clear, pass, open_pass, slice, value_of, adjoint_of, is_live, list, plan, left_of, slice_plan, range}
use Rattle.tape.specs.declared.admission.Caller.{Caller}
use Rattle.tape.specs.declared.admission.Caller.TheVariants as caller
use Rattle.tape.specs.declared.errors.Refusal.{Refusal}
use Rattle.tape.specs.declared.errors.Refusal.TheVariants.{UnknownOperation, Detached, Full, SerialsSpent, UnsoundEdge, ListingTooLong}
use Rattle.tape.specs.declared.node.Handle.{Handle}
use Rattle.tape.specs.declared.tape.Tape.{Tape}

-- what a call asks for
pub record Asked (N : Numbers) : Type 0 where
  -- which call asks
  pub caller : Caller
  -- the operation it records, if it does
  pub operation : Option ℕ
  -- the operands, root or read argument whose handles have to be live
  pub operands : List (Operand N)
  -- do they have to stand on the tape
  pub on_tape : Bool
  -- the nodes to be walked
  pub range : List ℕ
  -- the bytes lent for a listing, if it is one
  pub room : Option ℕ

-- a call that asks for nothing but to be let in, and what others ask besides
abbrev pub asks : {N : Numbers} → Caller → Asked N
asks k = record { caller = k; operation = none; operands = []; on_tape = false; range = []; room = none }

abbrev pub with_operation : {N : Numbers} → ℕ → Asked N → Asked N
with_operation op q =
    record { caller = q.caller; operation = some op; operands = q.operands; on_tape = q.on_tape; range = q.range; room = q.room }

abbrev pub with_operands : {N : Numbers} → List (Operand N) → Asked N → Asked N
with_operands os q =
    record { caller = q.caller; operation = q.operation; operands = os; on_tape = q.on_tape; range = q.range; room = q.room }

abbrev pub all_on_tape : {N : Numbers} → Asked N → Asked N
all_on_tape q =
    record { caller = q.caller; operation = q.operation; operands = q.operands; on_tape = true; range = q.range; room = q.room }

abbrev pub with_range : {N : Numbers} → List ℕ → Asked N → Asked N
with_range is q =
    record { caller = q.caller; operation = q.operation; operands = q.operands; on_tape = q.on_tape; range = is; room = q.room }

abbrev pub with_room : {N : Numbers} → ℕ → Asked N → Asked N
with_room bytes q =
    record { caller = q.caller; operation = q.operation; operands = q.operands; on_tape = q.on_tape; range = q.range; room = some bytes }

-- a start is a call of its own
abbrev pub mover : Move → Caller
mover start = caller.Start
mover stop = caller.Move
mover set_mark = caller.Move
mover reset_mark = caller.Move
mover rewind_to_mark = caller.Move
mover rewind_to_init = caller.Move

-- a pass asks alike whether it is opened or goes on to its end
abbrev pub passing : {N : Numbers} → Pass N → Tape → Asked N
passing p t = with_range (range (plan p t)) (all_on_tape (with_operands (plan p t).root (asks caller.Passing)))

abbrev pub asked : {N : Numbers} → Call N → Tape → Asked N
asked (move m) t = asks (mover m)
asked (operate op left right g) t = with_operation op (with_operands (used op left right) (asks caller.Recording))
asked clear t = asks caller.Clearing
asked (pass p) t = passing p t
asked (open_pass p) t = passing p t
asked {N} (slice n) t = with_range (range (slice_plan {N = N} n (left_of t.walk))) (asks (caller.Slice n))
asked (value_of x) t = with_operands (x ∷ []) (asks caller.Value)
asked (adjoint_of x) t = all_on_tape (with_operands (x ∷ []) (asks caller.Adjoint))
asked (is_live x) t = asks caller.Liveness
asked (list bytes) t = with_room bytes (asks caller.Listing)

abbrev pub unknown : Option ℕ → Bool
unknown none = false
unknown (some op) = not (known op)

-- the first handle that is not live decides
abbrev pub first_amiss : {N : Numbers} → Machine N → List Handle → Option Refusal
first_amiss M [] = none
first_amiss M (h ∷ hs) = cond (live M h) (first_amiss M hs) (some (amiss M.state h))

-- does it record, the tape being active
abbrev pub would_record : {N : Numbers} → Option ℕ → Machine N → Bool
would_record none M = false
would_record (some op) M = M.state.active

-- does a listing not fit
abbrev pub too_long : {N : Numbers} → Option ℕ → Machine N → Bool
too_long none M = false
too_long (some bytes) M = ltb bytes (length (listing M))

-- the last serial is kept back, so that the next one never passes 64 bits
abbrev pub last_serial : ℕ
last_serial = 18446744073709551615

-- the table: each row gives a refusal or none
abbrev pub refusals : {N : Numbers} → Asked N → Machine N → List (Option Refusal)
refusals q M =
    let_in q.caller M
    ∷ when (unknown q.operation) UnknownOperation
    ∷ first_amiss M (handles q.operands)
    ∷ when (q.on_tape && any_plain q.operands) Detached
    ∷ when (would_record q.operation M && eqb M.state.length (capacity M.lent)) Full
    ∷ when (would_record q.operation M && eqb M.state.next last_serial) SerialsSpent
    ∷ when (not (all (map (sound M.lent) q.range))) UnsoundEdge
    ∷ when (too_long q.room M) ListingTooLong
    ∷ []

-- the first refusal in the one ordered table, if there is one
abbrev pub refusal_of : {N : Numbers} → Call N → Machine N → Option Refusal
refusal_of c M = first (refusals (asked c M.state) M)
