-- What is proved of passes in slices, over any numbers: whatever the cutting, they are the pass in one go.
-- That a refused slice changes nothing is demand 1 (crates/revolutions/specs/Answered.antt), and that adjoint reads and
-- listings, which may come between slices, change nothing is `OnlyAdjoints` (`Passes`).
use Rattle.std.specs.Prelude.{ℕ, ◌+◌, ◌-◌, ◌/◌, ◌≤◌, ◌<◌, ◌≡◌, Bool, true, false, List, ◌∷◌, map, length, replicate}
use Rattle.tape.specs.Numbers.{Numbers}
use Rattle.tape.specs.Machine.{Machine, machine, most_nodes, with_walk}
use Rattle.tape.specs.Answers.{refused}
use Rattle.tape.specs.Calls.{move, start, stop, set_mark, reset_mark, rewind_to_mark, rewind_to_init, Pass, Call, operate, clear, pass, open_pass, slice, value_of, adjoint_of, is_live, list, with_adjoints, plan, range, nodes_in, left_of}
use Rattle.tape.specs.Refusals.{refusal_of}
use Rattle.tape.specs.Steps.{step, run}
use Rattle.tape.specs.Kept.{after}
use Rattle.tape.specs.Passes.{Unrefused, counts}
use Rattle.tape.specs.declared.errors.Refusal.TheVariants.{Misshapen, OutOfTurn}
use Rattle.tape.specs.declared.tape.Span.{Span}
use Rattle.std.specs.Prelude.{None, Some}

-- no walk is open
abbrev pub Over : {N : Numbers} → Machine N → Type 0
Over M = M.state.walk ≡ None

-- how many nodes are left of the walk that is open
abbrev pub nodes_left : {N : Numbers} → Machine N → ℕ
nodes_left M = nodes_in (left_of M.state.walk)

-- a pass that is opened, and slices of these sizes
abbrev pub in_slices : {N : Numbers} → Pass N → List ℕ → List (Call N)
in_slices p sizes = open_pass p ∷ map slice sizes

-- the calls that are answered while a walk is open
abbrev pub goes_along : {N : Numbers} → Call N → Bool
goes_along (slice n) = true
goes_along (adjoint_of x) = true
goes_along (list bytes) = true
goes_along (move start) = true
goes_along (move stop) = false
goes_along (move set_mark) = false
goes_along (move reset_mark) = false
goes_along (move rewind_to_mark) = false
goes_along (move rewind_to_init) = false
goes_along (operate op left right g) = false
goes_along clear = false
goes_along (pass p) = false
goes_along (open_pass p) = false
goes_along (value_of x) = false
goes_along (is_live x) = false

-- Unless it is refused 1, every other call is refused 12 while a walk is open, and a slice while none is; nothing else
-- is. With a walk open that has no node left, or that reaches past the length, every call is refused 1. Proved in
-- proofs/Turns.antt
pub record Turns : Type 1 where
  pub others : {N : Numbers} (c : Call N) (M : Machine N) (s : Span) → M.state.walk ≡ Some s → goes_along c ≡ false
      → ((step c M).0.number ≡ 1 → ⊥)
      → step c M ≡ (refused OutOfTurn, M)
  pub none_open : {N : Numbers} (n : ℕ) (M : Machine N) → Over M → ((step (slice n) M).0.number ≡ 1 → ⊥)
      → step (slice n) M ≡ (refused OutOfTurn, M)
  pub in_turn : {N : Numbers} (c : Call N) (M : Machine N) (s : Span) → M.state.walk ≡ Some s → goes_along c ≡ true
      → (step c M).0.number ≡ 12 → ⊥
  pub over : {N : Numbers} (c : Call N) (M : Machine N) → Over M → ((n : ℕ) → c ≡ slice n → ⊥)
      → (step c M).0.number ≡ 12 → ⊥
  pub no_node_left : {N : Numbers} (c : Call N) (M : Machine N) (s : Span) → M.state.walk ≡ Some s
      → s.end ≤ s.from
      → step c M ≡ (refused Misshapen, M)
  pub past_the_length : {N : Numbers} (c : Call N) (M : Machine N) (s : Span) → M.state.walk ≡ Some s
      → M.state.length < s.end
      → step c M ≡ (refused Misshapen, M)

-- Any cutting: where no call is refused and the walk is over after the last, the machine is the one that the pass in one
-- go leaves, and the edges visited are as many. Proved in proofs/Slices.antt
pub record AnyCutting : Type 1 where
  pub machine : {N : Numbers} (p : Pass N) (sizes : List ℕ) (M : Machine N) → let cs = in_slices p sizes in
      Unrefused (run cs M).0 → Over (after cs M) → after cs M ≡ (step (pass p) M).1
  pub visits : {N : Numbers} (p : Pass N) (sizes : List ℕ) (M : Machine N) → let cs = in_slices p sizes in
      Unrefused (run cs M).0 → Over (after cs M) → counts (run cs M).0 ≡ (step (pass p) M).0.count

-- An opening is refused as its pass in one go is; and once a pass is opened, no slice of 1 to 65,535 nodes is refused
-- while the walk is open. Proved in proofs/Slices.antt
pub record GoesOn : Type 1 where
  pub alike : {N : Numbers} (p : Pass N) (M : Machine N) → refusal_of (open_pass p) M ≡ refusal_of (pass p) M
  pub continues : {N : Numbers} (p : Pass N) (sizes : List ℕ) (n : ℕ) (M : Machine N) → let cs = in_slices p sizes in
      Unrefused (run cs M).0 → (Over (after cs M) → ⊥) → 0 < n → n ≤ most_nodes
      → (step (slice n) (after cs M)).0.number ≡ 0

-- k nodes in slices of n: k / n, rounded up
abbrev pub rounded_up : ℕ → ℕ → ℕ
rounded_up k n = (k + n - 1) / n

-- Slices of n: if the pass in one go is not refused, neither are its opening and as many slices as its nodes take; after
-- the last the walk is over, and not before. Proved in proofs/Slices.antt
pub record AllOneSize : Type 1 where
  pub over : {N : Numbers} (p : Pass N) (n : ℕ) (M : Machine N) → (step (pass p) M).0.number ≡ 0 → 0 < n → n ≤ most_nodes
      → let cs = in_slices p (replicate (rounded_up (length (range (plan p M.state))) n) n) in
      Unrefused (run cs M).0 × Over (after cs M)
  pub not_before : {N : Numbers} (p : Pass N) (n : ℕ) (M : Machine N) → (step (pass p) M).0.number ≡ 0 → 0 < n
      → n ≤ most_nodes
      → (c : ℕ) → c < rounded_up (length (range (plan p M.state))) n → Over (after (in_slices p (replicate c n)) M) → ⊥

-- A slice takes min(n, left) nodes. The nodes that are told to be left are left, and where none is told the walk is
-- over; nothing but adjoints and the walk is changed. Proved in proofs/Slices.antt
pub record EachSlice : Type 1 where
  pub opening_tells : {N : Numbers} (p : Pass N) (M : Machine N) → (step (open_pass p) M).0.number ≡ 0
      → (step (open_pass p) M).0.left ≡ nodes_left (step (open_pass p) M).1
  pub opening_over : {N : Numbers} (p : Pass N) (M : Machine N) → (step (open_pass p) M).0.number ≡ 0
      → (step (open_pass p) M).0.left ≡ 0 → Over (step (open_pass p) M).1
  pub takes : {N : Numbers} (n : ℕ) (M : Machine N) → (step (slice n) M).0.number ≡ 0
      → (step (slice n) M).0.left ≡ nodes_left M - n
  pub tells : {N : Numbers} (n : ℕ) (M : Machine N) → (step (slice n) M).0.number ≡ 0
      → (step (slice n) M).0.left ≡ nodes_left (step (slice n) M).1
  pub over : {N : Numbers} (n : ℕ) (M : Machine N) → (step (slice n) M).0.number ≡ 0 → (step (slice n) M).0.left ≡ 0
      → Over (step (slice n) M).1
  pub opening_leaves : {N : Numbers} (p : Pass N) (M : Machine N) → let after = (step (open_pass p) M).1 in
      after ≡ with_adjoints (machine (with_walk after.state.walk M.state) M.lent) after.lent.adjoint
  pub leaves : {N : Numbers} (n : ℕ) (M : Machine N) → let after = (step (slice n) M).1 in
      after ≡ with_adjoints (machine (with_walk after.state.walk M.state) M.lent) after.lent.adjoint
