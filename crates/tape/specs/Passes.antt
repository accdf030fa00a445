-- What is proved of passes, clearing and reads, over any numbers.
use Rattle.std.specs.Prelude.{ℕ, ◌+◌, ◌≡◌, true, List, [], ◌∷◌, ◌++◌, map, ltb, length, get_or, set}
use Rattle.tape.specs.Numbers.{Numbers}
use Rattle.tape.specs.Machine.{Arrays, Machine, all}
use Rattle.tape.specs.Handles.{Operand}
use Rattle.tape.specs.Walk.{Edge, push, walk, edges_at, sum, visited}
use Rattle.tape.specs.Answers.{Answer, counted}
use Rattle.tape.specs.Calls.{move, reset_mark, Pass, Call, pass, propagate_to_mark, propagate_mark_to_start, clear, value_of, adjoint_of, is_live, list, with_adjoints}
use Rattle.tape.specs.Admission.{fits}
use Rattle.tape.specs.Steps.{step, run}
use Rattle.tape.specs.Kept.{fresh, after}
use Rattle.std.specs.Prelude.{None}

-- document 01's words to the letter, the adjoint of node i read again for each edge
abbrev pub push_edge_by_edge : {N : Numbers} → ℕ → List (Edge N) → List N.Number → List N.Number
push_edge_by_edge i [] adjoints = adjoints
push_edge_by_edge {N} i (e ∷ es) adjoints =
    push_edge_by_edge i es (set adjoints e.child (N.plus (get_or adjoints e.child N.blank) (N.times e.weight (get_or adjoints i N.blank))))

-- where no edge goes from a node to itself, it can be read once; and the sum of the edge counts is the number of edges.
-- Proved in proofs/Passes.antt
pub record EachEdge : Type 1 where
  pub read_once : {N : Numbers} (i : ℕ) (es : List (Edge N)) (adjoints : List N.Number)
      → all (map (λ e. ltb e.child i) es) ≡ true
      → push_edge_by_edge i es adjoints ≡ push (get_or adjoints i N.blank) es adjoints
  pub counted_once : {N : Numbers} (A : Arrays N) (range : List ℕ)
      → visited A range ≡ sum (map (λ i. length (edges_at A i)) range)

-- passes and clearing change nothing but adjoints, and reads and the listing change nothing. Proved in
-- proofs/Passes.antt
pub record OnlyAdjoints : Type 1 where
  pub passes : {N : Numbers} (p : Pass N) (M : Machine N)
      → let after = (step (pass p) M).1 in after ≡ with_adjoints M after.lent.adjoint
  pub clearing : {N : Numbers} (M : Machine N)
      → let after = (step clear M).1 in after ≡ with_adjoints M after.lent.adjoint
  pub values : {N : Numbers} (x : Operand N) (M : Machine N) → (step (value_of x) M).1 ≡ M
  pub adjoints : {N : Numbers} (x : Operand N) (M : Machine N) → (step (adjoint_of x) M).1 ≡ M
  pub liveness : {N : Numbers} (x : Operand N) (M : Machine N) → (step (is_live x) M).1 ≡ M
  pub listings : {N : Numbers} (bytes : ℕ) (M : Machine N) → (step (list bytes) M).1 ≡ M

-- a pass without a root over an empty range changes nothing and counts 0. Proved in proofs/Passes.antt
pub record EmptyRange : Type 1 where
  pub to_start : {N : Numbers} (M : Machine N) → fits true M ≡ true → M.state.walk ≡ None
      → M.state.mark ≡ 0
      → step (pass propagate_mark_to_start) M ≡ (counted 0, M)
  pub to_mark : {N : Numbers} (M : Machine N) → fits true M ≡ true → M.state.walk ≡ None
      → M.state.mark ≡ M.state.length
      → step (pass propagate_to_mark) M ≡ (counted 0, M)

-- none of these answers is a refusal
abbrev pub Unrefused : {N : Numbers} → List (Answer N) → Type 0
Unrefused [] = Unit {0}
Unrefused (a ∷ rest) = (a.number ≡ 0) × Unrefused rest

abbrev pub counts : {N : Numbers} → List (Answer N) → ℕ
counts answers = sum (map (λ a. a.count) answers)

-- from the end to the mark, then from the mark to the start
abbrev pub in_two : (N : Numbers) → List (Call N)
in_two N = pass propagate_to_mark ∷ pass propagate_mark_to_start ∷ []

-- with the mark at 0, a pass to the mark walks everything
abbrev pub in_one : (N : Numbers) → List (Call N)
in_one N = move reset_mark ∷ pass propagate_to_mark ∷ []

-- the two passes are one walk of both ranges. Proved in proofs/Passes.antt
pub record BothRanges : Type 1 where
  pub of_nodes : {N : Numbers} (i : ℕ) (low high : List (List (Edge N))) (adjoints : List N.Number)
      → walk i (low ++ high) adjoints ≡ walk i low (walk (i + length low) high adjoints)
  pub unrefused : {N : Numbers} (M : Machine N) → Unrefused (run (in_two N) M).0 → Unrefused (run (in_one N) M).0
  pub arrays : {N : Numbers} (M : Machine N) → Unrefused (run (in_two N) M).0
      → (after (in_one N) M).lent ≡ (after (in_two N) M).lent
  pub visits : {N : Numbers} (M : Machine N) → Unrefused (run (in_two N) M).0
      → counts (run (in_one N) M).0 ≡ counts (run (in_two N) M).0

-- a tape that was written by these calls alone is never refused 7. Proved in proofs/Passes.antt
pub record NeverUnsound : Type 1 where
  pub never_refused_7 : {N : Numbers} (A : Arrays N) (before : List (Call N)) (c : Call N)
      → (step c (after before (fresh A))).0.number ≡ 7 → ⊥
