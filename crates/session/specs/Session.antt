-- What a session answers, as a function from its bytes: its lines are read and run in turn, each the step of the call
-- that it names, and at last the tape is listed.
use Rattle.std.specs.Prelude.{ℕ, ◌+◌, ◌*◌, Bool, cond, List, [], ◌∷◌, ◌++◌, map, ltb, eqb, Float, length, get_or, replicate}
use Rattle.std.proofs.Math.Option.{Option, none, some}
use Rattle.std.specs.Float.{binary64}
use Rattle.std.specs.Float.Ieee.{of_bits}
use Rattle.tape.specs.Numbers.{floats}
use Rattle.tape.specs.Machine.{Arrays, Machine, arrays, slot, all}
use Rattle.tape.specs.Handles.{Operand, plain, node}
use Rattle.tape.specs.Operations.{NEGATE, SQRT}
use Rattle.tape.specs.Answers.{Answer, number, refused}
use Rattle.tape.specs.Calls.{Call, move, start, set_mark, reset_mark, rewind_to_mark, rewind_to_init, operate, clear, pass, backward, backward_to_mark, backward_mark_to_start, propagate_mark_to_start}
use Rattle.tape.specs.Steps.{step}
use Rattle.tape.specs.Kept.{fresh, after}
use Rattle.tape.specs.declared.errors.Refusal.TheVariants.{Stale, Malformed}
use Rattle.tape.specs.declared.node.Handle.{Handle}
use Rattle.expr.specs.Operators.{unused, nothing, new_leaf}
use Rattle.listing.specs.Outcome.{listed}
use Rattle.session.specs.Lines.{n, c, Line, leaf, op, op_7, op_10, mark_set, mark_reset, rewind_mark, rewind_init, clear_adj, pass_back, pass_tomark, pass_tostart, pass_rest, Reader}
use Rattle.session.specs.Lines as grammar

-- ---- the call that a line names

-- `n` and an index: the handle of that index with the serial that stands there
abbrev pub standing : Machine floats → ℕ → Handle
standing M i = record { index = i; serial = get_or M.lent.serial i 0 }

-- `c` and a pattern: the number that has it; any NaN's is a NaN
abbrev pub number_of : ℕ → Float
number_of pattern = of_bits binary64 pattern

abbrev pub operand : Machine floats → grammar.Operand → Operand floats
operand M (n index) = node (standing M index)
operand M (c pattern) = plain (number_of pattern)

abbrev pub call : Machine floats → Line → Call floats
call M (leaf pattern) = new_leaf (number_of pattern)
call M (op k left right) = operate k (operand M left) (operand M right) nothing
call M (op_7 left) = operate NEGATE (operand M left) unused nothing
call M (op_10 left) = operate SQRT (operand M left) unused nothing
call M mark_set = move set_mark
call M mark_reset = move reset_mark
call M rewind_mark = move rewind_to_mark
call M rewind_init = move rewind_to_init
call M clear_adj = clear
call M (pass_back root) = pass (backward (node (standing M root)))
call M (pass_tomark root) = pass (backward_to_mark (node (standing M root)))
call M (pass_tostart root) = pass (backward_mark_to_start (node (standing M root)))
call M pass_rest = pass propagate_mark_to_start

-- the indexes of nodes that a line names
abbrev pub indexes_of : grammar.Operand → List ℕ
indexes_of (n index) = index ∷ []
indexes_of (c pattern) = []

abbrev pub indexes : Line → List ℕ
indexes (leaf pattern) = []
indexes (op k left right) = indexes_of left ++ indexes_of right
indexes (op_7 left) = indexes_of left
indexes (op_10 left) = indexes_of left
indexes mark_set = []
indexes mark_reset = []
indexes rewind_mark = []
indexes rewind_init = []
indexes clear_adj = []
indexes (pass_back root) = root ∷ []
indexes (pass_tomark root) = root ∷ []
indexes (pass_tostart root) = root ∷ []
indexes pass_rest = []

-- is each of them below the length
abbrev pub stands : Machine floats → Line → Bool
stands M l = all (map (λ i. ltb i M.state.length) (indexes l))

-- an index not below the length is refused 3, before any handle is made; otherwise the line is the step of its call
abbrev pub run_line : Line → Machine floats → Answer floats × Machine floats
run_line l M = cond (stands M l) (step (call M l) M) (refused Stale, M)

-- ---- the lines in turn

-- a byte before the first of some lines
abbrev pub onto : ℕ → List (List ℕ) → List (List ℕ)
onto byte [] = (byte ∷ []) ∷ []
onto byte (first ∷ rest) = (byte ∷ first) ∷ rest

-- the lines of a text, each with its line feed; what stands behind the last line feed is a line without one
abbrev pub lines : List ℕ → List (List ℕ)
lines [] = []
lines (byte ∷ bytes) = cond (eqb byte 10) ((byte ∷ []) ∷ lines bytes) (onto byte (lines bytes))

-- a line is read whole before it runs; what is no line is refused 9
abbrev pub run_read : Option Line → Machine floats → Answer floats × Machine floats
run_read none M = (refused Malformed, M)
run_read (some l) M = run_line l M

-- what the lines come to: the machine after the last, or the number of the first refusal and its line
pub data Outcome : Type 0 where
  ended : Machine floats → Outcome
  stopped : (refused_by line : ℕ) → Outcome

-- the first of these lines is line k
abbrev pub run_lines : (List ℕ → Option Line) → ℕ → List (List ℕ) → Machine floats → Outcome
run_lines read k [] M = ended M
run_lines read k (first ∷ rest) M =
    let one = run_read (read first) M in
    cond (eqb one.0.number 0) (run_lines read (k + 1) rest one.1) (stopped one.0.number k)

-- ---- the answer

-- the tape starts active, with room for 1,024 nodes
abbrev pub session_nodes : ℕ
session_nodes = 1024

abbrev pub zeros : Arrays floats
zeros =
    let O = floats.nought in
    arrays (replicate session_nodes O) (replicate session_nodes O) (replicate session_nodes 0) (replicate session_nodes 0) (replicate (slot session_nodes) 0) (replicate (slot session_nodes) O)

abbrev pub started : Machine floats
started = after (move start ∷ []) (fresh zeros)

abbrev pub most_session : ℕ
most_session = 65536

-- a number below this counts bytes, and from it on one tells of a refusal and its line
abbrev pub least_refusal : ℕ
least_refusal = 16777216

abbrev pub refusal : ℕ → ℕ → ℕ
refusal refused_by line = refused_by * least_refusal + line

-- The number that is returned, and the lent bytes after the call: how many bytes the listing has, with the listing
-- written over the first of them; at a refusal the lent bytes stay. Where the listing does not fit, no line is at fault
abbrev pub reported : Outcome → List ℕ → ℕ × List ℕ
reported (stopped refused_by line) lent = (refusal refused_by line, lent)
reported (ended M) lent =
    let x = listed M lent in
    let answer = x.0.0 in
    (cond (eqb answer.number 0) answer.count (refusal answer.number 0), x.1)

-- an overlong session is refused 9, before anything else
abbrev pub answered : Reader → List ℕ → List ℕ → ℕ × List ℕ
answered R session lent =
    cond (ltb most_session (length session)) (refusal (number Malformed) 0, lent)
    (reported (run_lines R.read 1 (lines session) started) lent)
