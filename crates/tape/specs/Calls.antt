-- The calls, and what each does to the machine if it is not refused.
use Rattle.std.specs.Prelude.{ℕ, ◌+◌, ◌-◌, true, false, cond, List, [], ◌∷◌, ◌++◌, map, ltb, length, set, drop, replicate}
use Rattle.std.proofs.Math.Option.{Option, none, some}
use Rattle.std.proofs.lemmas.List.Edits.{sets}
use Rattle.tape.specs.Numbers.{Numbers}
use Rattle.tape.specs.Machine.{Arrays, Machine, arrays, machine, slot, with_length, with_mark, with_active, with_next, with_walk, span, walk_left}
use Rattle.tape.specs.Handles.{Operand, plain, node, operand_value, gradient, liveness}
use Rattle.tape.specs.Operations.{Given, Row, apply}
use Rattle.tape.specs.Walk.{Edge, walk, edges_at, indexes, visited}
use Rattle.tape.specs.Listing.{listing}
use Rattle.tape.specs.Answers.{Answer, done, read_value, detached, recorded, counted, cut}
use Rattle.tape.specs.declared.node.Handle.{Handle}
use Rattle.tape.specs.declared.tape.Span.{Span}
use Rattle.tape.specs.declared.tape.Tape.{Tape}
use Rattle.tape.specs.Machine.{Walk}
use Rattle.std.specs.Prelude.{None, Some}

pub data Move : Type 0 where
  start stop set_mark reset_mark rewind_to_mark rewind_to_init : Move

-- the reverse passes: from a root, to the mark or from it to the start, the last two also without a root
pub data Pass (N : Numbers) : Type 0 where
  backward backward_to_mark backward_mark_to_start : Operand N → Pass N
  propagate_to_mark propagate_mark_to_start : Pass N

pub data Call (N : Numbers) : Type 0 where
  move : Move → Call N
  -- operation number, left and right operand, what the host supplies
  operate : ℕ → Operand N → Operand N → Given N → Call N
  clear : Call N
  pass : Pass N → Call N
  -- opens the walk of a pass, and continues the one that is open by so many nodes
  open_pass : Pass N → Call N
  slice : ℕ → Call N
  value_of adjoint_of is_live : Operand N → Call N
  -- how many bytes are lent for it
  list : ℕ → Call N

-- ---- start, stop, marks and rewinds

abbrev pub moved : Move → Tape → Tape
moved start t = with_walk None (with_active true (with_mark 0 (with_length 0 t)))
moved stop t = with_active false t
moved set_mark t = with_mark t.length t
moved reset_mark t = with_mark 0 t
moved rewind_to_mark t = with_length t.mark t
moved rewind_to_init t = with_mark 0 (with_length 0 t)

-- ---- recording

-- a handle makes an edge if there is a partial for it; a plain number makes none
abbrev pub edge : {N : Numbers} → Operand N → Option N.Number → List (Edge N)
edge (node h) (some p) = record { child = h.index; weight = p } ∷ []
edge (node h) none = []
edge (plain x) p = []

-- left, then right
abbrev pub edges : {N : Numbers} → Operand N → Operand N → Row N → List (Edge N)
edges left right s = edge left s.left ++ edge right s.right

-- the handle of the next node: the index that is the length, the serial that is next
abbrev pub issued : Tape → Handle
issued t = record { index = t.length; serial = t.next }

-- the state once that node is recorded
abbrev pub grown : Tape → Tape
grown t = with_next (t.next + 1) (with_length (t.length + 1) t)

-- the arrays once the node is written at that index, its adjoint +0.0, its edges from its slot on; edge slots that it
-- does not use keep what they held
abbrev pub with_node : {N : Numbers} → Handle → Arrays N → N.Number → List (Edge N) → Arrays N
with_node {N} h A v es =
    arrays
    (set A.value h.index v)
    (set A.adjoint h.index N.nought)
    (set A.serial h.index h.serial)
    (set A.count h.index (length es))
    (sets A.child (slot h.index) (map (λ e. e.child) es))
    (sets A.partial (slot h.index) (map (λ e. e.weight) es))

-- the machine after that
abbrev pub written : {N : Numbers} → Machine N → N.Number → List (Edge N) → Machine N
written M v es = machine (grown M.state) (with_node (issued M.state) M.lent v es)

-- ---- clearing and passes

abbrev pub with_adjoints : {N : Numbers} → Machine N → List N.Number → Machine N
with_adjoints M s =
    machine M.state (arrays M.lent.value s M.lent.serial M.lent.count M.lent.child M.lent.partial)

-- +0.0 in each live adjoint; those past the length stay
abbrev pub cleared : {N : Numbers} → Machine N → Machine N
cleared {N} M = let n = M.state.length in with_adjoints M (replicate n N.nought ++ drop n M.lent.adjoint)

-- what a pass does: the adjoint of its root, if it has one, is set to 1.0, and then the nodes from end - 1 down to from
-- are walked
pub record Plan (N : Numbers) : Type 0 where
  pub root : List (Operand N)
  pub from : ℕ
  pub end : ℕ

-- the index past a root's; a plain number is no root, and refused
abbrev pub past : {N : Numbers} → Operand N → ℕ
past (plain x) = 0
past (node h) = h.index + 1

abbrev pub plan : {N : Numbers} → Pass N → Tape → Plan N
plan (backward x) t = record { root = x ∷ []; from = 0; end = past x }
plan (backward_to_mark x) t = record { root = x ∷ []; from = t.mark; end = t.length }
plan (backward_mark_to_start x) t = record { root = x ∷ []; from = 0; end = t.mark }
plan propagate_to_mark t = record { root = []; from = t.mark; end = t.length }
plan propagate_mark_to_start t = record { root = []; from = 0; end = t.mark }

abbrev pub range : {N : Numbers} → Plan N → List ℕ
range P = indexes P.from (P.end - P.from)

-- 1.0 is set and not added
abbrev pub seeded : {N : Numbers} → List (Operand N) → List N.Number → List N.Number
seeded [] s = s
seeded (plain x ∷ os) s = seeded os s
seeded {N} (node h ∷ os) s = seeded os (set s h.index N.one)

-- other adjoints are not cleared first
abbrev pub walked : {N : Numbers} → Plan N → Machine N → Machine N
walked P M = with_adjoints M (walk P.from (map (edges_at M.lent) (range P)) (seeded P.root M.lent.adjoint))

-- ---- passes in slices

abbrev pub nodes_in : Span → ℕ
nodes_in s = s.end - s.from

abbrev pub span_of : {N : Numbers} → Plan N → Span
span_of P = span P.from P.end

-- the machine with these nodes left to be walked
abbrev pub leaving : {N : Numbers} → Span → Machine N → Machine N
leaving s M = machine (with_walk (walk_left s) M.state) M.lent

-- a pass is opened: the adjoint of its root, if it has one, is set to 1.0, and its whole range is left
abbrev pub opened : {N : Numbers} → Plan N → Machine N → Machine N
opened P M = leaving (span_of P) (with_adjoints M (seeded P.root M.lent.adjoint))

-- the nodes that are left of a walk
abbrev pub left_of : Walk → Span
left_of None = span 0 0
left_of (Some s) = s

-- a slice of n takes min(n, left) nodes from the top, down to this one
abbrev pub cut_at : ℕ → Span → ℕ
cut_at n s = s.end - cond (ltb n (nodes_in s)) n (nodes_in s)

-- the nodes that it takes, and those that it leaves
abbrev pub slice_plan : {N : Numbers} → ℕ → Span → Plan N
slice_plan n s = record { root = []; from = cut_at n s; end = s.end }

abbrev pub slice_leaves : ℕ → Span → Span
slice_leaves n s = span s.from (cut_at n s)

-- ---- every call

-- what a call that is not refused does
abbrev pub carried : {N : Numbers} → Call N → Machine N → Answer N × Machine N
carried (move m) M = (done, machine (moved m M.state) M.lent)
carried (operate op left right g) M =
    let s = apply op (operand_value M left) (operand_value M right) g in
    cond M.state.active (recorded s.value (issued M.state), written M s.value (edges left right s)) (detached s.value, M)
carried clear M = (done, cleared M)
carried (pass p) M = let P = plan p M.state in (counted (visited M.lent (range P)), walked P M)
carried (open_pass p) M = let P = plan p M.state in (cut 0 (nodes_in (span_of P)), opened P M)
carried {N} (slice n) M =
    let s = left_of M.state.walk in
    let P : Plan N = slice_plan n s in
    (cut (visited M.lent (range P)) (nodes_in (slice_leaves n s)), leaving (slice_leaves n s) (walked P M))
carried (value_of x) M = (read_value (operand_value M x), M)
carried (adjoint_of x) M = (read_value (gradient M x), M)
carried (is_live x) M = (counted (liveness M x), M)
carried (list bytes) M = (counted (length (listing M)), M)
