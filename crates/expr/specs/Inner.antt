-- What the private functions of src/ promise: the rule as the code goes about it. Only their proofs use it; every public
-- promise speaks of `step`.
use Rattle.std.specs.Prelude.{ℕ, ◌+◌, ◌≤◌, ◌<◌, Bool, true, false, cond, List, [], ◌∷◌, ◌++◌, eqb, length, get_or, Float, Option, None, Some, Result, Ok, Err}
use Rattle.std.proofs.Math.Option as maths
use Rattle.std.specs.Float.{nan}
use Rattle.tape.specs.Numbers.{floats}
use Rattle.tape.specs.Machine.{Arrays, Machine, machine, capacity, slot, most_edges}
use Rattle.tape.specs.Handles.{usable_as}
use Rattle.tape.specs.Handles as Handles
use Rattle.tape.specs.Operations.{row, known, apply}
use Rattle.tape.specs.Operations as operations
use Rattle.tape.specs.Answers.{Answer, refused, detached, recorded}
use Rattle.tape.specs.Walk.{Edge}
use Rattle.tape.specs.Calls.{issued, written, edge}
use Rattle.tape.specs.Admission.{admitted, let_in}
use Rattle.tape.specs.Refusals.{last_serial}
use Rattle.tape.specs.declared.errors.Refusal.{Refusal}
use Rattle.tape.specs.declared.errors.Refusal.TheVariants.{UnknownOperation, Full, SerialsSpent}
use Rattle.tape.specs.declared.node.Operand.{Operand}
use Rattle.tape.specs.declared.node.Operand.TheVariants as operand
use Rattle.tape.specs.declared.admission.Caller.TheVariants as caller
use Rattle.tape.specs.declared.tape.Tape.{Tape}
use Rattle.expr.specs.Outcome.{given, told}
use Rattle.expr.specs.declared.operations.Row.{Row}
use Rattle.expr.specs.declared.operations.Row.TheVariants as code
use Rattle.expr.specs.declared.operations.Supplied.{Supplied}
use Rattle.expr.specs.declared.edges.Edge as one
use Rattle.expr.specs.declared.edges.Edges.{Edges}
use Rattle.expr.specs.declared.recording.NewNode.{NewNode}
use Rattle.expr.specs.declared.recording.Recorded.{Recorded}

-- ---- edges

abbrev pub edges_of : Option one.Edge → List (Edge floats)
edges_of None = []
edges_of (Some e) = record { child = e.child; weight = e.weight } ∷ []

abbrev pub edge_list : Edges → List (Edge floats)
edge_list es = edges_of es.left ++ edges_of es.right

abbrev pub edge_said : Result (Option one.Edge) Refusal → Result (List (Edge floats)) Refusal
edge_said (Ok e) = Ok (edges_of e)
edge_said (Err r) = Err r

-- ---- who is live

abbrev pub usable_operand : Tape → List ℕ → Operand → Result (Unit {0}) Refusal
usable_operand t serials (operand.Number x) = Ok tt
usable_operand t serials (operand.Node h) = usable_as t serials h

-- a value, unless it is refused
abbrev pub allowed : {A : Type 0} → Result (Unit {0}) Refusal → A → Result A Refusal
allowed (Ok u) x = Ok x
allowed (Err r) x = Err r

-- what may be refused itself, unless it is refused before
abbrev pub after : {A : Type 0} → Result (Unit {0}) Refusal → Result A Refusal → Result A Refusal
after (Ok u) x = x
after (Err r) x = Err r

-- ---- the row

abbrev pub operand_value_in : List Float → Operand → Float
operand_value_in values (operand.Number x) = x
operand_value_in values (operand.Node h) = get_or values h.index nan

-- the row that the code's answer holds, and whether the table has one
abbrev pub row_in : Option Row → Bool × operations.Row floats
row_in None = (false, row nan maths.none maths.none)
row_in (Some (code.Leaf v)) = (true, row v maths.none maths.none)
row_in (Some (code.One v p)) = (true, row v (maths.some p) maths.none)
row_in (Some (code.Two v p q)) = (true, row v (maths.some p) (maths.some q))

abbrev pub row_by : Float → maths.Option Float → maths.Option Float → Row
row_by v maths.none q = code.Leaf v
row_by v (maths.some p) maths.none = code.One v p
row_by v (maths.some p) (maths.some q) = code.Two v p q

-- the code's row of a row of the table
abbrev pub row_of : Bool → operations.Row floats → Option Row
row_of false s = None
row_of true s = Some (row_by s.value s.left s.right)

abbrev pub row_for : List Float → ℕ → Operand → Operand → Supplied → Option Row
row_for values op left right g =
    row_of (known op) (apply op (operand_value_in values left) (operand_value_in values right) (given g))

-- ---- the node that a row makes: its value and its edges

abbrev pub Made : Type 0
Made = Float × List (Edge floats)

abbrev pub node_said : Result NewNode Refusal → Result Made Refusal
node_said (Ok n) = Ok (n.value, edge_list n.edges)
node_said (Err r) = Err r

abbrev pub row_made : Row → Result (Unit {0}) Refusal → Result (Unit {0}) Refusal → Operand → Operand → Result Made Refusal
row_made (code.Leaf v) u w left right = allowed u (v, [])
row_made (code.One v p) u w left right = allowed u (v, edge (Handles.operand left) (maths.some p))
row_made (code.Two v p q) u w left right =
    after u (allowed w (v, edge (Handles.operand left) (maths.some p) ++ edge (Handles.operand right) (maths.some q)))

abbrev pub known_made : Option Row → Result (Unit {0}) Refusal → Result (Unit {0}) Refusal → Operand → Operand → Result Made Refusal
known_made None u w left right = Err UnknownOperation
known_made (Some s) u w left right = row_made s u w left right

abbrev pub decided : Machine floats → ℕ → Operand → Operand → Supplied → Result Made Refusal
decided M op left right g =
    after
    (admitted (let_in caller.Recording M))
    (known_made
    (row_for M.lent.value op left right g)
    (usable_operand M.state M.lent.serial left)
    (usable_operand M.state M.lent.serial right)
    left
    right)

-- ---- room, and the node's place

abbrev pub appended : Machine floats → Float → List (Edge floats) → Answer floats × Machine floats
appended M v es = (recorded v (issued M.state), written M v es)

abbrev pub appended_said : Recorded → Arrays floats → Answer floats × Machine floats
appended_said x A = (told x.value x.handle, machine x.tape A)

abbrev pub recorded_if_room : Machine floats → Float → List (Edge floats) → Answer floats × Machine floats
recorded_if_room M v es =
    cond
    M.state.active
    (cond
    (eqb M.state.length (capacity M.lent))
    (refused Full, M)
    (cond (eqb M.state.next last_serial) (refused SerialsSpent, M) (appended M v es)))
    (detached v, M)

pub record Room (i : ℕ) (A : Arrays floats) : Type 0 where
  pub value : i < length A.value
  pub adjoint : i < length A.adjoint
  pub serial : i < length A.serial
  pub count : i < length A.count
  pub child : slot i + most_edges ≤ length A.child
  pub partial : slot i + most_edges ≤ length A.partial
