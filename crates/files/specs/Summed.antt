-- Demand 3 of files: a file of demand 3's shape lists the long tape's bits. Read downwards: such a file, what its lines
-- resolve to, what it lists.
use Rattle.std.specs.Prelude.{ℕ, ◌-◌, ◌≤◌, ◌<◌, ◌≡◌, true, cond, List, [], ◌∷◌, ◌++◌, map, ltb, length, drop}
use Rattle.tape.specs.Numbers.{floats}
use Rattle.tape.specs.Machine.{Machine, arrays, machine, state}
use Rattle.tape.specs.Operations.{LEAF, NEGATE, SQRT}
use Rattle.tape.specs.Listing.{listing}
use Rattle.expr.specs.Operators.{nothing}
use Rattle.revolutions.specs.Revolutions.{ResolvedOperand, in_model, own, number, ResolvedOperation, ResolvedRevolution, ResolvedSession, nodes, long_tape}
use Rattle.session.specs.Lines.{Operand, n, c, Line, mark_set, rewind_mark, clear_adj, pass_tomark, pass_rest, text, Within, Reader}
use Rattle.session.specs.Lines as line
use Rattle.session.specs.Session.{number_of, least_refusal, answered}

-- ---- a file

-- the lines that record
pub data Recording : Type 0 where
  leaf : ℕ → Recording
  op : ℕ → Operand → Operand → Recording
  op_7 op_10 : Operand → Recording

abbrev pub as_line : Recording → Line
as_line (leaf pattern) = line.leaf pattern
as_line (op k left right) = line.op k left right
as_line (op_7 left) = line.op_7 left
as_line (op_10 left) = line.op_10 left

-- what a revolution records, and the index of its root
pub record FileRevolution : Type 0 where
  pub operations : List Recording
  pub root : ℕ

pub record FileSession : Type 0 where
  pub model : List Recording
  pub revolutions : List FileRevolution

-- each revolution: record it, pass its gradients back to the mark, rewind
abbrev pub revolution_lines : List FileRevolution → List Line
revolution_lines [] = []
revolution_lines (r ∷ rs) =
    map as_line r.operations ++ (pass_tomark r.root ∷ rewind_mark ∷ revolution_lines rs)

-- record the model, set the mark, clear; the revolutions; at last the walk from the mark to the start
abbrev pub file_lines : FileSession → List Line
file_lines s =
    map as_line s.model ++ (mark_set ∷ clear_adj ∷ revolution_lines s.revolutions ++ (pass_rest ∷ []))

-- the texts of lines, one after the other
abbrev pub file : List Line → List ℕ
file [] = []
file (l ∷ ls) = text l ++ file ls

abbrev pub AllWithin : List Line → Type 0
AllWithin [] = Unit {0}
AllWithin (l ∷ ls) = Within l × AllWithin ls

abbrev pub AtOrPast : ℕ → List FileRevolution → Type 0
AtOrPast mark [] = Unit {0}
AtOrPast mark (r ∷ rs) = (mark ≤ r.root) × AtOrPast mark rs

-- ---- what its lines resolve to: no machine and no serial is in it

-- what an operand stands for, behind a model of m nodes
abbrev pub resolve_operand : ℕ → Operand → ResolvedOperand floats
resolve_operand m (n index) = cond (ltb index m) (in_model index) (own (index - m))
resolve_operand m (c pattern) = number (number_of pattern)

-- where there is no right operand
abbrev pub no_operand : ResolvedOperand floats
no_operand = number floats.nought

abbrev pub resolved : ℕ → ResolvedOperand floats → ResolvedOperand floats → ResolvedOperation floats
resolved k left right = record { operation = k; left = left; right = right; supplied = nothing }

abbrev pub resolve_line : ℕ → Recording → ResolvedOperation floats
resolve_line m (leaf pattern) = resolved LEAF (number (number_of pattern)) no_operand
resolve_line m (op k left right) = resolved k (resolve_operand m left) (resolve_operand m right)
resolve_line m (op_7 left) = resolved NEGATE (resolve_operand m left) no_operand
resolve_line m (op_10 left) = resolved SQRT (resolve_operand m left) no_operand

abbrev pub resolve_revolution : ℕ → FileRevolution → ResolvedRevolution floats
resolve_revolution m r = record { operations = map (resolve_line m) r.operations; root = r.root - m }

-- the nodes of the model are its own: no model stands before it
abbrev pub resolve_file : FileSession → ResolvedSession floats
resolve_file s =
    record { model = map (resolve_line 0) s.model; revolutions = map (resolve_revolution (length s.model)) s.revolutions }

-- ---- what it lists

-- the model alone, marked behind its last node: its values by the operations table, its adjoints the long tape's
abbrev pub model_tape : ResolvedSession floats → Machine floats
model_tape resolved =
    let values = map (λ n. n.value) (nodes 0 [] [] resolved.model) in
    let m = length values in
    machine (state m m true 1) (arrays values (long_tape resolved) [] [] [] [])

abbrev pub long_listing : FileSession → List ℕ
long_listing s = listing (model_tape (resolve_file s))

-- A file of this shape with its lines within the limits and each root at or past the mark, if it is not refused, lists
-- the long tape's bits. Proved in proofs/Summed.antt
abbrev pub Demand3 : Type 0
Demand3 =
    (R : Reader) (s : FileSession) (lent : List ℕ) → let session = file (file_lines s) in
    AllWithin (file_lines s)
    → AtOrPast (length s.model) s.revolutions
    → (answered R session lent).0 < least_refusal
    → answered R session lent ≡ (length (long_listing s), long_listing s ++ drop (length (long_listing s)) lent)
