-- What the private functions of src/ promise. Only their proofs use it; the public promise speaks of `answered`.
use Rattle.std.specs.Prelude.{ℕ, suc, ◌-◌, Bool, true, ◌&&◌, cond, Option, Some, None, Result, Ok, Err, List, [], ◌∷◌, option_and_then, leb, ltb, eqb, length, get_or, take, drop}
use Rattle.std.proofs.Math.Option as math
use Rattle.std.specs.Float.{binary64}
use Rattle.std.specs.Float.Ieee.{of_bits}
use Rattle.std.specs.Option.{option_map}
use Rattle.std.specs.Str.{bytes_eq}
use Rattle.text.specs.Numerals.{bytes}
use Rattle.text.specs.Parsed.{read_hex, read_decimal}
use Rattle.tape.specs.Numbers.{floats}
use Rattle.tape.specs.Machine.{Arrays, Machine, machine}
use Rattle.tape.specs.Answers.{Answer, number}
use Rattle.tape.specs.Calls as calls
use Rattle.tape.specs.Handles as handles
use Rattle.tape.specs.declared.errors.Refusal.{Refusal}
use Rattle.tape.specs.declared.node.Operand as operand
use Rattle.tape.specs.declared.tape.Tape.{Tape}
use Rattle.expr.specs.Operators.{nothing}
use Rattle.dual.specs.Outcome.{pass_of}
use Rattle.session.specs.Lines as paper
use Rattle.session.specs.Session.{Outcome, ended, stopped, refusal}
use Rattle.session.specs.declared.lines.Stop.{Stop}
use Rattle.session.specs.declared.reading.Source as source
use Rattle.session.specs.declared.reading.Line as code
use Rattle.session.specs.declared.running.Call as call
use Rattle.session.specs.declared.running.Move as move

-- ---- bytes

-- where the first such byte stands, or the length
abbrev pub find : ℕ → List ℕ → ℕ
find byte [] = 0
find byte (x ∷ xs) = cond (eqb x byte) 0 (suc (find byte xs))

abbrev pub begins : List ℕ → List ℕ → Bool
begins start text = bytes_eq (take (length start) text) start

abbrev pub is : List ℕ → List ℕ → Bool
is word text = bytes_eq text word

-- ---- reading a line, as the code goes

abbrev pub source_in : List ℕ → Option source.Source
source_in text =
    cond (begins (bytes "n") text) (option_map source.TheVariants.Node (read_decimal 5 (drop 1 text)))
    (cond (begins (bytes "c") text) (option_map source.TheVariants.Number (read_hex (drop 1 text))) None)

abbrev pub pass_named : List ℕ → ℕ → Option code.Line
pass_named first root =
    cond (is (bytes "pass=back") first) (Some (code.TheVariants.PassBack root))
    (cond (is (bytes "pass=tomark") first) (Some (code.TheVariants.PassTomark root))
    (cond (is (bytes "pass=tostart") first) (Some (code.TheVariants.PassTostart root)) None))

abbrev pub pass_line : List ℕ → List ℕ → Option code.Line
pass_line first rest =
    cond (begins (bytes " root=") rest) (option_and_then (pass_named first) (read_decimal 5 (drop 6 rest))) None

abbrev pub two_sided : source.Source → List ℕ → ℕ → Option code.Line
two_sided left rest k =
    cond (leb 1 k && leb k 6)
    (cond (begins (bytes " right=") rest) (option_map (code.TheVariants.Op k left) (source_in (drop 7 rest))) None)
    None

abbrev pub with_left : List ℕ → List ℕ → source.Source → Option code.Line
with_left number rest left =
    cond (is (bytes "7") number && eqb (length rest) 0) (Some (code.TheVariants.Op7 left))
    (cond (is (bytes "10") number && eqb (length rest) 0) (Some (code.TheVariants.Op10 left))
    (option_and_then (two_sided left rest) (read_decimal 1 number)))

abbrev pub operation : List ℕ → List ℕ → Option code.Line
operation number rest =
    let operands = drop 6 rest in
    let end = find 32 operands in
    cond (begins (bytes " left=") rest) (option_and_then (with_left number (drop end operands)) (source_in (take end operands))) None

abbrev pub leaf_of : List ℕ → Option code.Line
leaf_of first = cond (begins (bytes "leaf=") first) (option_map code.TheVariants.Leaf (read_hex (drop 5 first))) None

abbrev pub word : List ℕ → Option code.Line
word first =
    cond (is (bytes "mark=set") first) (Some code.TheVariants.MarkSet)
    (cond (is (bytes "mark=reset") first) (Some code.TheVariants.MarkReset)
    (cond (is (bytes "rewind=mark") first) (Some code.TheVariants.RewindMark)
    (cond (is (bytes "rewind=init") first) (Some code.TheVariants.RewindInit)
    (cond (is (bytes "clear=adj") first) (Some code.TheVariants.ClearAdj)
    (cond (is (bytes "pass=rest") first) (Some code.TheVariants.PassRest) (leaf_of first))))))

-- the first word, and what follows it with its space
abbrev pub words_as : List ℕ → List ℕ → Option code.Line
words_as first rest =
    cond (eqb (length rest) 0) (word first)
    (cond (begins (bytes "op=") first) (operation (drop 3 first) rest) (pass_line first rest))

abbrev pub words : List ℕ → Option code.Line
words text = let end = find 32 text in words_as (take end text) (drop end text)

abbrev pub read_line : List ℕ → Option code.Line
read_line line =
    let last = length line - 1 in
    cond (bytes_eq (drop last line) (10 ∷ [])) (words (take last line)) None

-- ---- the line of the paper that was read

abbrev pub operand_of : source.Source → paper.Operand
operand_of (source.TheVariants.Node index) = paper.n index
operand_of (source.TheVariants.Number pattern) = paper.c pattern

abbrev pub line_of : code.Line → paper.Line
line_of (code.TheVariants.Leaf pattern) = paper.leaf pattern
line_of (code.TheVariants.Op k left right) = paper.op k (operand_of left) (operand_of right)
line_of (code.TheVariants.Op7 left) = paper.op_7 (operand_of left)
line_of (code.TheVariants.Op10 left) = paper.op_10 (operand_of left)
line_of code.TheVariants.MarkSet = paper.mark_set
line_of code.TheVariants.MarkReset = paper.mark_reset
line_of code.TheVariants.RewindMark = paper.rewind_mark
line_of code.TheVariants.RewindInit = paper.rewind_init
line_of code.TheVariants.ClearAdj = paper.clear_adj
line_of (code.TheVariants.PassBack root) = paper.pass_back root
line_of (code.TheVariants.PassTomark root) = paper.pass_tomark root
line_of (code.TheVariants.PassTostart root) = paper.pass_tostart root
line_of code.TheVariants.PassRest = paper.pass_rest

abbrev pub line_read : Option code.Line → math.Option paper.Line
line_read None = math.none
line_read (Some line) = math.some (line_of line)

abbrev pub reading : List ℕ → math.Option paper.Line
reading line = line_read (read_line line)

-- ---- running a line, as the code goes

abbrev pub source_stands : ℕ → source.Source → Bool
source_stands length (source.TheVariants.Node index) = ltb index length
source_stands length (source.TheVariants.Number pattern) = true

abbrev pub line_stands : ℕ → code.Line → Bool
line_stands length (code.TheVariants.Leaf pattern) = true
line_stands length (code.TheVariants.Op k left right) = source_stands length left && source_stands length right
line_stands length (code.TheVariants.Op7 left) = source_stands length left
line_stands length (code.TheVariants.Op10 left) = source_stands length left
line_stands length code.TheVariants.MarkSet = true
line_stands length code.TheVariants.MarkReset = true
line_stands length code.TheVariants.RewindMark = true
line_stands length code.TheVariants.RewindInit = true
line_stands length code.TheVariants.ClearAdj = true
line_stands length (code.TheVariants.PassBack root) = ltb root length
line_stands length (code.TheVariants.PassTomark root) = ltb root length
line_stands length (code.TheVariants.PassTostart root) = ltb root length
line_stands length code.TheVariants.PassRest = true

-- the code's operand for an index, given the serials
abbrev pub node_with : List ℕ → ℕ → operand.Operand
node_with serials i = operand.TheVariants.Node (record { index = i; serial = get_or serials i 0 })

abbrev pub number_with : ℕ → operand.Operand
number_with pattern = operand.TheVariants.Number (of_bits binary64 pattern)

abbrev pub operand_with : List ℕ → source.Source → operand.Operand
operand_with serials (source.TheVariants.Node index) = node_with serials index
operand_with serials (source.TheVariants.Number pattern) = number_with pattern

abbrev pub move_of : move.Move → calls.Move
move_of move.TheVariants.SetMark = calls.set_mark
move_of move.TheVariants.ResetMark = calls.reset_mark
move_of move.TheVariants.RewindToMark = calls.rewind_to_mark
move_of move.TheVariants.RewindToInit = calls.rewind_to_init

-- the machine's call
abbrev pub named : call.Call → calls.Call floats
named (call.TheVariants.Record op left right) = calls.operate op (handles.operand left) (handles.operand right) nothing
named (call.TheVariants.Move which) = calls.move (move_of which)
named call.TheVariants.Clear = calls.clear
named (call.TheVariants.Pass which) = calls.pass (pass_of which)

-- what a call answered whose state was left behind a reference
abbrev pub kept : Result (Unit {0}) Refusal → Tape → Result Tape Refusal
kept (Ok tt) t = Ok t
kept (Err r) t = Err r

-- of an answer nothing but its number is kept
abbrev pub told : Answer floats × Machine floats → ℕ × Machine floats
told x = (x.0.number, x.1)

-- ---- the lines in turn

abbrev pub came_to : Result Tape Stop → Arrays floats → Outcome
came_to (Ok t) A = ended (machine t A)
came_to (Err s) A = stopped (number s.refusal) s.line

-- the number that is returned
abbrev pub returned : Result ℕ Stop → ℕ
returned (Ok bytes) = bytes
returned (Err s) = refusal (number s.refusal) s.line
