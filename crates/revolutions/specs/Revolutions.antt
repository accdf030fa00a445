-- The sum over revolutions, demand 3. Read downwards: a session of calls, what it resolves to, the one long tape that
-- is built from that, and what is proved. Over any numbers; no law of them is assumed.
use Rattle.std.specs.Prelude.{ℕ, ◌+◌, ◌-◌, ◌≤◌, ◌≡◌, cond, List, [], ◌∷◌, ◌++◌, map, ltb, length, get_or, set, take, replicate}
use Rattle.std.proofs.Math.Option.{Option, none, some}
use Rattle.tape.specs.Numbers.{Numbers}
use Rattle.tape.specs.Machine.{Machine}
use Rattle.tape.specs.Handles.{Operand, plain, node}
use Rattle.tape.specs.Operations.{Given, apply, one_sided}
use Rattle.tape.specs.Walk.{Edge, walk}
use Rattle.tape.specs.Calls.{Call, move, start, set_mark, rewind_to_mark, operate, clear, pass, open_pass, slice, backward_to_mark, propagate_mark_to_start, value_of, adjoint_of, is_live, list}
use Rattle.tape.specs.Steps.{run}
use Rattle.tape.specs.Kept.{after}
use Rattle.tape.specs.Passes.{Unrefused}
use Rattle.tape.specs.Slices.{Over}
use Rattle.tape.specs.declared.node.Handle.{Handle}

-- ---- a session

-- an operation as it is called: its number, its operands, what the host supplies
pub record Operation (N : Numbers) : Type 0 where
  pub operation : ℕ
  pub left : Operand N
  pub right : Operand N
  pub supplied : Given N

pub record Revolution (N : Numbers) : Type 0 where
  pub operations : List (Operation N)
  pub root : Handle

pub record Session (N : Numbers) : Type 0 where
  pub model : List (Operation N)
  pub revolutions : List (Revolution N)

abbrev pub recordings : {N : Numbers} → List (Operation N) → List (Call N)
recordings os = map (λ o. operate o.operation o.left o.right o.supplied) os

-- each revolution: record it, pass its gradients back to the mark, rewind
abbrev pub revolution_calls : {N : Numbers} → List (Revolution N) → List (Call N)
revolution_calls [] = []
revolution_calls (r ∷ rs) =
    recordings r.operations ++ (pass (backward_to_mark (node r.root)) ∷ move rewind_to_mark ∷ revolution_calls rs)

-- start, record the model, set the mark, clear; the revolutions; at last the walk from the mark to the start
abbrev pub calls : {N : Numbers} → Session N → List (Call N)
calls s =
    move start
    ∷ recordings s.model
    ++ (move set_mark ∷ clear ∷ revolution_calls s.revolutions ++ (pass propagate_mark_to_start ∷ []))

-- ---- how its calls may be made

-- What a call stands for in a session: opening a pass for that pass; a slice, a read and a listing for nothing. So any
-- pass may be cut, and reads and listings may stand anywhere between
abbrev pub in_one_go : {N : Numbers} → Call N → List (Call N)
in_one_go (open_pass p) = pass p ∷ []
in_one_go (slice n) = []
in_one_go (value_of x) = []
in_one_go (adjoint_of x) = []
in_one_go (is_live x) = []
in_one_go (list bytes) = []
in_one_go (move m) = move m ∷ []
in_one_go (operate op left right g) = operate op left right g ∷ []
in_one_go clear = clear ∷ []
in_one_go (pass p) = pass p ∷ []

abbrev pub all_in_one_go : {N : Numbers} → List (Call N) → List (Call N)
all_in_one_go [] = []
all_in_one_go (c ∷ cs) = in_one_go c ++ all_in_one_go cs

-- ---- what it resolves to

-- an operand stands for a node of the model, for a node of its own revolution, or for a number
pub data ResolvedOperand (N : Numbers) : Type 0 where
  in_model own : ℕ → ResolvedOperand N
  number : N.Number → ResolvedOperand N

-- what an operand stands for, behind a model of m nodes. A handle's index says which node: if the handle is not live,
-- the call is refused
abbrev pub resolve_operand : {N : Numbers} → ℕ → Operand N → ResolvedOperand N
resolve_operand m (plain x) = number x
resolve_operand m (node h) = cond (ltb h.index m) (in_model h.index) (own (h.index - m))

-- an operation with its operands so resolved; one that it does not use resolves to nothing, and a zero stands there
pub record ResolvedOperation (N : Numbers) : Type 0 where
  pub operation : ℕ
  pub left : ResolvedOperand N
  pub right : ResolvedOperand N
  pub supplied : Given N

abbrev pub resolve_operation : {N : Numbers} → ℕ → Operation N → ResolvedOperation N
resolve_operation {N} m o = record {
  operation = o.operation;
  left = resolve_operand m o.left;
  right = cond (one_sided o.operation) (number N.nought) (resolve_operand m o.right);
  supplied = o.supplied;
}

-- a revolution: its operations, and which of its own nodes is the root
pub record ResolvedRevolution (N : Numbers) : Type 0 where
  pub operations : List (ResolvedOperation N)
  pub root : ℕ

abbrev pub resolve_revolution : {N : Numbers} → ℕ → Revolution N → ResolvedRevolution N
resolve_revolution m r = record { operations = map (resolve_operation m) r.operations; root = r.root.index - m }

pub record ResolvedSession (N : Numbers) : Type 0 where
  pub model : List (ResolvedOperation N)
  pub revolutions : List (ResolvedRevolution N)

-- the nodes of the model are its own: no model stands before it
abbrev pub resolve : {N : Numbers} → Session N → ResolvedSession N
resolve s =
    record { model = map (resolve_operation 0) s.model; revolutions = map (resolve_revolution (length s.model)) s.revolutions }

-- ---- the long tape: nothing in it is read off a machine

pub record Node (N : Numbers) : Type 0 where
  pub value : N.Number
  pub edges : List (Edge N)

-- the value of an operand, given those of the model's nodes and those of the own nodes so far
abbrev pub operand_value : {N : Numbers} → List N.Number → List N.Number → ResolvedOperand N → N.Number
operand_value {N} models owns (in_model i) = get_or models i N.blank
operand_value {N} models owns (own j) = get_or owns j N.blank
operand_value models owns (number x) = x

-- its edge, if there is a partial for it, where the own nodes stand at b, b + 1 and so on
abbrev pub edge : {N : Numbers} → ℕ → ResolvedOperand N → Option N.Number → List (Edge N)
edge b m none = []
edge b (in_model i) (some p) = record { child = i; weight = p } ∷ []
edge b (own j) (some p) = record { child = b + j; weight = p } ∷ []
edge b (number x) (some p) = []

-- the nodes that operations make by the operations table, standing at b, b + 1 and so on
abbrev pub nodes : {N : Numbers} → ℕ → List N.Number → List N.Number → List (ResolvedOperation N) → List (Node N)
nodes b models owns [] = []
nodes b models owns (d ∷ ds) =
    let s =
    apply d.operation (operand_value models owns d.left) (operand_value models owns d.right) d.supplied in
    record { value = s.value; edges = edge b d.left s.left ++ edge b d.right s.right } ∷ nodes b models (owns ++ (s.value ∷ [])) ds

-- behind a model of these values: the revolutions, last to first
abbrev pub behind : {N : Numbers} → List N.Number → List (ResolvedRevolution N) → List (Node N)
behind models [] = []
behind models (t ∷ ts) =
    let later = behind models ts in later ++ nodes (length models + length later) models [] t.operations

-- their adjoints: all roots one, everything else zero
abbrev pub seeds : {N : Numbers} → List (ResolvedRevolution N) → List N.Number
seeds [] = []
seeds {N} (t ∷ ts) = seeds ts ++ set (replicate (length t.operations) N.nought) t.root N.one

-- the model, then the revolutions, walked once from the end to 0: what the model's adjoints are then
abbrev pub long_tape : {N : Numbers} → ResolvedSession N → List N.Number
long_tape {N} resolved =
    let first = nodes 0 [] [] resolved.model in
    let m = length first in
    let all = first ++ behind (map (λ n. n.value) first) resolved.revolutions in
    take m (walk 0 (map (λ n. n.edges) all) (replicate m N.nought ++ seeds resolved.revolutions))

-- ---- what is proved

abbrev pub AtOrPast : {N : Numbers} → ℕ → List (Revolution N) → Type 0
AtOrPast mark [] = Unit {0}
AtOrPast mark (r ∷ rs) = (mark ≤ r.root.index) × AtOrPast mark rs

-- These calls are the session's, but that passes may be cut, and reads and listings stand between; on this machine none
-- is refused, and no walk is open after the last; each root stands at or past the mark.
-- Nothing else is asked: not of shapes, room or where children stand, nor of how large slices are
pub record RunsAs {N : Numbers} (s : Session N) (cs : List (Call N)) (M : Machine N) : Type 0 where
  pub session : all_in_one_go cs ≡ calls s
  pub unrefused : Unrefused (run cs M).0
  pub over : Over (after cs M)
  pub roots : AtOrPast (length s.model) s.revolutions

-- the model's part of the adjoint array, as the calls leave it
abbrev pub model_adjoints : {N : Numbers} → Session N → List (Call N) → Machine N → List N.Number
model_adjoints s cs M = take (length s.model) (after cs M).lent.adjoint

-- On any machine, with any lent arrays of any capacity: every model adjoint is that of the long tape, bit for bit.
-- Proved in proofs/Sum.antt
pub record Demand3 : Type 1 where
  pub sum_over_revolutions : {N : Numbers} (s : Session N) (cs : List (Call N)) (M : Machine N) → RunsAs s cs M
      → model_adjoints s cs M ≡ long_tape (resolve s)
