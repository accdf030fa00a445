-- Refusals that meet: for every two that one call can meet at once, a call that meets both, the refusal that it gets,
-- and what the same call gets once the cause of that one is gone.
-- They fix the order of the table.
use Rattle.std.specs.Prelude.{ℕ, ◌≡◌, true, List, [], ◌∷◌, length, replicate}
use Rattle.tape.specs.Numbers.{floats}
use Rattle.tape.specs.Machine.{Arrays, Machine, arrays, machine, slot, state}
use Rattle.tape.specs.Handles.{Operand, plain, node}
use Rattle.tape.specs.Operations.{ADD, NEGATE, UNKNOWN}
use Rattle.tape.specs.Answers.{refused}
use Rattle.tape.specs.Calls.{Call, clear, pass, open_pass, slice, backward, backward_to_mark, value_of, adjoint_of, list}
use Rattle.tape.specs.Refusals.{last_serial}
use Rattle.tape.specs.Steps.{step}
use Rattle.tape.specs.Rows.{float, handle, node_at, leaf, binary, with_open}
use Rattle.tape.specs.declared.errors.Refusal.{Refusal}
use Rattle.tape.specs.declared.errors.Refusal.TheVariants.{Misshapen, UnknownOperation, Stale, Detached, Full, SerialsSpent, UnsoundEdge, ListingTooLong, NeverIssued, OutOfTurn, UnfitSlice}

-- ---- what they meet on

-- arrays with these serials and edge counts; each edge goes to node 1
abbrev pub holding : List ℕ → List ℕ → Arrays floats
holding serials counts =
    let n = length serials in
    arrays (replicate n (float 7)) (replicate n (float 7)) serials counts (replicate (slot n) 1) (replicate (slot n) (float 7))

-- two leaves, and room for one more node
abbrev pub roomy : Arrays floats
roomy = holding (1 ∷ 2 ∷ 7 ∷ []) (0 ∷ 0 ∷ 7 ∷ [])

-- two leaves where two have room, which a recording is refused 5 for
abbrev pub full : Arrays floats
full = holding (1 ∷ 2 ∷ []) (0 ∷ 0 ∷ [])

-- the second node is its own child, which a pass is refused 7 for
abbrev pub unsound : Arrays floats
unsound = holding (1 ∷ 2 ∷ []) (0 ∷ 1 ∷ [])

-- two nodes are live, the tape is active, the mark is 0 and 3 the next serial
abbrev pub on : Arrays floats → Machine floats
on A = machine (state 2 0 true 3) A

-- the same with the mark over the length, which is refused 1
abbrev pub misshapen : Arrays floats → Machine floats
misshapen A = machine (state 2 3 true 3) A

-- the same with a walk of both nodes open, which everything is refused 12 for but a slice, an adjoint read, the listing
-- and start
abbrev pub walking : Machine floats → Machine floats
walking M = with_open 0 2 M

-- the same with no serial left but the last, which is refused 6
abbrev pub spent : Arrays floats → Machine floats
spent A = machine (state 2 0 true last_serial) A

-- serial 1 was given out, and node 1 has another; the last serial is never given out
abbrev pub stale : Operand floats
stale = node (handle 1 1)

abbrev pub made_up : Operand floats
made_up = node (handle 1 last_serial)

abbrev pub a_number : Operand floats
a_number = plain (float 5)

-- an operation that the table does not have
abbrev pub unknown : Operand floats → Call floats
unknown x = binary UNKNOWN x x

-- ---- the pairs

-- a call on a machine is refused so
abbrev pub Refused : Call floats → Machine floats → Refusal → Type 0
Refused c M r = (step c M).0 ≡ refused r

-- Proved in proofs/Pairs.antt, by computation
pub record Order : Type 0 where
  pub one_and_two : Refused (unknown (node_at 0)) (misshapen roomy) Misshapen
      × Refused (unknown (node_at 0)) (on roomy) UnknownOperation
  pub one_and_three : Refused (value_of stale) (misshapen roomy) Misshapen × Refused (value_of stale) (on roomy) Stale
  pub one_and_eleven : Refused (value_of made_up) (misshapen roomy) Misshapen
      × Refused (value_of made_up) (on roomy) NeverIssued
  pub one_and_four : Refused (adjoint_of a_number) (misshapen roomy) Misshapen
      × Refused (adjoint_of a_number) (on roomy) Detached
  pub one_and_five : Refused (leaf (float 5)) (misshapen full) Misshapen × Refused (leaf (float 5)) (on full) Full
  pub one_and_six : Refused (leaf (float 5)) (machine (state 2 3 true last_serial) roomy) Misshapen
      × Refused (leaf (float 5)) (spent roomy) SerialsSpent
  pub one_and_seven : Refused (pass (backward (node_at 1))) (misshapen unsound) Misshapen
      × Refused (pass (backward (node_at 1))) (on unsound) UnsoundEdge
  pub one_and_eight : Refused (list 0) (misshapen roomy) Misshapen × Refused (list 0) (on roomy) ListingTooLong
  pub two_and_three : Refused (unknown stale) (on roomy) UnknownOperation
      × Refused (binary ADD stale stale) (on roomy) Stale
  pub two_and_eleven : Refused (unknown made_up) (on roomy) UnknownOperation
      × Refused (binary ADD made_up made_up) (on roomy) NeverIssued
  -- the first operand that is not live decides, left before right
  pub three_and_eleven : Refused (binary ADD stale made_up) (on roomy) Stale
      × Refused (binary ADD (node_at 0) made_up) (on roomy) NeverIssued
  pub eleven_and_three : Refused (binary ADD made_up stale) (on roomy) NeverIssued
      × Refused (binary ADD (node_at 0) stale) (on roomy) Stale
  pub two_and_five : Refused (unknown (node_at 0)) (on full) UnknownOperation
      × Refused (binary ADD (node_at 0) (node_at 0)) (on full) Full
  pub two_and_six : Refused (unknown (node_at 0)) (spent roomy) UnknownOperation
      × Refused (binary ADD (node_at 0) (node_at 0)) (spent roomy) SerialsSpent
  pub three_and_five : Refused (binary NEGATE stale stale) (on full) Stale
      × Refused (binary NEGATE (node_at 0) stale) (on full) Full
  pub eleven_and_five : Refused (binary NEGATE made_up stale) (on full) NeverIssued
      × Refused (binary NEGATE (node_at 0) stale) (on full) Full
  pub three_and_six : Refused (binary NEGATE stale stale) (spent roomy) Stale
      × Refused (binary NEGATE (node_at 0) stale) (spent roomy) SerialsSpent
  pub eleven_and_six : Refused (binary NEGATE made_up stale) (spent roomy) NeverIssued
      × Refused (binary NEGATE (node_at 0) stale) (spent roomy) SerialsSpent
  pub three_and_seven : Refused (pass (backward stale)) (on unsound) Stale
      × Refused (pass (backward (node_at 1))) (on unsound) UnsoundEdge
  pub eleven_and_seven : Refused (pass (backward made_up)) (on unsound) NeverIssued
      × Refused (pass (backward (node_at 1))) (on unsound) UnsoundEdge
  pub four_and_seven : Refused (pass (backward_to_mark a_number)) (on unsound) Detached
      × Refused (pass (backward_to_mark (node_at 1))) (on unsound) UnsoundEdge
  pub five_and_six : Refused (leaf (float 5)) (spent full) Full × Refused (leaf (float 5)) (spent roomy) SerialsSpent
  pub one_and_twelve : Refused clear (walking (misshapen roomy)) Misshapen × Refused clear (walking (on roomy)) OutOfTurn
  pub one_and_thirteen : Refused (slice 0) (walking (misshapen roomy)) Misshapen
      × Refused (slice 0) (walking (on roomy)) UnfitSlice
  pub twelve_and_thirteen : Refused (slice 0) (on roomy) OutOfTurn × Refused (slice 0) (walking (on roomy)) UnfitSlice
  pub twelve_and_two : Refused (unknown (node_at 0)) (walking (on roomy)) OutOfTurn
      × Refused (unknown (node_at 0)) (on roomy) UnknownOperation
  pub twelve_and_three : Refused (value_of stale) (walking (on roomy)) OutOfTurn
      × Refused (value_of stale) (on roomy) Stale
  pub twelve_and_eleven : Refused (value_of made_up) (walking (on roomy)) OutOfTurn
      × Refused (value_of made_up) (on roomy) NeverIssued
  pub twelve_and_four : Refused (open_pass (backward a_number)) (walking (on roomy)) OutOfTurn
      × Refused (open_pass (backward a_number)) (on roomy) Detached
  pub twelve_and_five : Refused (leaf (float 5)) (walking (on full)) OutOfTurn × Refused (leaf (float 5)) (on full) Full
  pub twelve_and_six : Refused (leaf (float 5)) (walking (spent roomy)) OutOfTurn
      × Refused (leaf (float 5)) (spent roomy) SerialsSpent
  pub twelve_and_seven : Refused (open_pass (backward (node_at 1))) (walking (on unsound)) OutOfTurn
      × Refused (open_pass (backward (node_at 1))) (on unsound) UnsoundEdge
  pub thirteen_and_seven : Refused (slice 0) (walking (on unsound)) UnfitSlice
      × Refused (slice 1) (walking (on unsound)) UnsoundEdge
