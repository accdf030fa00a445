-- What reads, clearing and passes answer, in the machine's terms. Opening a pass and taking a slice hand back the state.
-- The other calls do not change it and do not hand it back: what one leaves is the state it was given, with the arrays.
use Rattle.std.specs.Prelude.{ℕ, ◌≡◌, Float, Option, None, Some, Result, Ok, Err, OnErr}
use Rattle.tape.specs.Numbers.{floats}
use Rattle.tape.specs.Machine.{Arrays, Machine, machine}
use Rattle.tape.specs.Handles.{operand, counted_as}
use Rattle.tape.specs.Answers.{Answer, refused, done, read_value, counted, cut}
use Rattle.tape.specs.Calls.{Pass, backward, backward_to_mark, backward_mark_to_start, propagate_to_mark, propagate_mark_to_start}
use Rattle.tape.specs.declared.errors.Refusal.{Refusal}
use Rattle.tape.specs.declared.node.Lookup.{Lookup}
use Rattle.tape.specs.declared.tape.Tape.{Tape}
use Rattle.dual.specs.declared.passes.Pass as pass
use Rattle.dual.specs.declared.slicing.Sliced.{Sliced}

-- value and adjoint
abbrev pub read_outcome : Result Float Refusal → Machine floats → Answer floats × Machine floats
read_outcome (Ok x) M = (read_value x, M)
read_outcome (Err r) M = (refused r, M)

-- is_live: of a number nothing is looked up
abbrev pub liveness_outcome : Result (Option Lookup) Refusal → Machine floats → Answer floats × Machine floats
liveness_outcome (Ok None) M = (counted 0, M)
liveness_outcome (Ok (Some found)) M = (counted (counted_as found), M)
liveness_outcome (Err r) M = (refused r, M)

-- reset_adjoints
abbrev pub cleared_outcome : Result (Unit {0}) Refusal → Machine floats → Answer floats × Machine floats
cleared_outcome (Ok tt) M = (done, M)
cleared_outcome (Err r) M = (refused r, M)

-- the five passes
abbrev pub pass_outcome : Result ℕ Refusal → Machine floats → Answer floats × Machine floats
pass_outcome (Ok visited) M = (counted visited, M)
pass_outcome (Err r) M = (refused r, M)

-- the code's pass
abbrev pub pass_of : pass.Pass → Pass floats
pass_of (pass.TheVariants.Backward x) = backward (operand x)
pass_of (pass.TheVariants.BackwardToMark x) = backward_to_mark (operand x)
pass_of (pass.TheVariants.BackwardMarkToStart x) = backward_mark_to_start (operand x)
pass_of pass.TheVariants.PropagateToMark = propagate_to_mark
pass_of pass.TheVariants.PropagateMarkToStart = propagate_mark_to_start

-- open_pass and take_slice of a state, which a refusal leaves
abbrev pub sliced_outcome : Result Sliced Refusal → Tape → Arrays floats → Answer floats × Machine floats
sliced_outcome (Ok s) t A = (cut s.visited s.left, machine s.tape A)
sliced_outcome (Err r) t A = (refused r, machine t A)

-- no two answers, each with what it leaves, say the same. Proved in proofs/OneToOne.antt
pub record OneToOne : Type 0 where
  pub read_outcome : (x y : Result Float Refusal) (M K : Machine floats) → read_outcome x M ≡ read_outcome y K
      → (x ≡ y) × (M ≡ K)
  pub liveness_outcome : (x y : Result (Option Lookup) Refusal) (M K : Machine floats)
      → liveness_outcome x M ≡ liveness_outcome y K
      → (x ≡ y) × (M ≡ K)
  pub cleared_outcome : (x y : Result (Unit {0}) Refusal) (M K : Machine floats) → cleared_outcome x M ≡ cleared_outcome y K
      → (x ≡ y) × (M ≡ K)
  pub pass_outcome : (x y : Result ℕ Refusal) (M K : Machine floats) → pass_outcome x M ≡ pass_outcome y K
      → (x ≡ y) × (M ≡ K)
  pub sliced_outcome : (x y : Result Sliced Refusal) (t u : Tape) (A B : Arrays floats)
      → sliced_outcome x t A ≡ sliced_outcome y u B
      → (x ≡ y) × (A ≡ B) × OnErr x (t ≡ u)
