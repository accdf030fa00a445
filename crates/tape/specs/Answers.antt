-- What a call returns, as document 01 has it: a number, a value, a handle, a count, and how many nodes are left of a
-- walk. Number 0 is an answer; the others are the refusals.
use Rattle.std.specs.Prelude.{ℕ, ◌≡◌, Result, Ok, Err, OnErr}
use Rattle.std.proofs.Math.Option.{Option, none, some}
use Rattle.tape.specs.Numbers.{Numbers, floats}
use Rattle.tape.specs.Machine.{Arrays, Machine, machine}
use Rattle.tape.specs.declared.errors.Refusal.{Refusal}
use Rattle.tape.specs.declared.errors.Refusal.TheVariants.{Misshapen, UnknownOperation, Stale, Detached, Full, SerialsSpent, UnsoundEdge, ListingTooLong, Malformed, NeverIssued, OutOfTurn, UnfitSlice}
use Rattle.tape.specs.declared.node.Handle.{Handle}
use Rattle.tape.specs.declared.tape.Tape.{Tape}

abbrev pub number : Refusal → ℕ
number Misshapen = 1
number UnknownOperation = 2
number Stale = 3
number Detached = 4
number Full = 5
number SerialsSpent = 6
number UnsoundEdge = 7
number ListingTooLong = 8
number Malformed = 9
number NeverIssued = 11
number OutOfTurn = 12
number UnfitSlice = 13

pub record Answer (N : Numbers) : Type 0 where
  pub number : ℕ
  pub value : N.Number
  pub handle : Option Handle
  pub count : ℕ
  pub left : ℕ

abbrev pub answer : {N : Numbers} → ℕ → N.Number → Option Handle → ℕ → ℕ → Answer N
answer k v h n left = record { number = k; value = v; handle = h; count = n; left = left }

-- a refusal returns its number, value +0.0, no handle, count 0 and nodes left 0
abbrev pub refused : {N : Numbers} → Refusal → Answer N
refused {N} r = answer (number r) N.nought none 0 0

-- start, stop, marks, rewinds and clearing: nothing but that it was done
abbrev pub done : {N : Numbers} → Answer N
done {N} = answer 0 N.nought none 0 0

-- a value that is read
abbrev pub read_value : {N : Numbers} → N.Number → Answer N
read_value v = answer 0 v none 0 0

-- a value that stands on no tape
abbrev pub detached : {N : Numbers} → N.Number → Answer N
detached v = read_value v

-- edges visited, bytes written, or what is_live finds (`liveness` in Handles.antt)
abbrev pub counted : {N : Numbers} → ℕ → Answer N
counted {N} n = answer 0 N.nought none n 0

-- edges visited, and nodes left: an opening and a slice
abbrev pub cut : {N : Numbers} → ℕ → ℕ → Answer N
cut {N} n left = answer 0 N.nought none n left

-- a value and its node's handle
abbrev pub recorded : {N : Numbers} → N.Number → Handle → Answer N
recorded v h = answer 0 v (some h) 0 0

-- what the code's answer to a start, stop, mark or rewind of a state says, for whatever arrays the caller keeps beside it:
-- a refusal leaves the state
abbrev pub outcome : Result Tape Refusal → Tape → Arrays floats → Answer floats × Machine floats
outcome (Ok after) t A = (done, machine after A)
outcome (Err r) t A = (refused r, machine t A)

-- no two of the code's answers say the same, nor two refusals of two states, and no two refusals have one number. Proved
-- in proofs/OneToOne.antt
pub record OneToOne : Type 0 where
  pub numbers : (r s : Refusal) → number r ≡ number s → r ≡ s
  pub moves : (x y : Result Tape Refusal) (t u : Tape) (A : Arrays floats) → outcome x t A ≡ outcome y u A → (x ≡ y) × OnErr x (t ≡ u)
