-- The lines of a file are the texts that it was made of, since a text has one line feed, at its end; and each is read
-- back by what reads lines.
use Prim.Native.Nat.{ℕ, zero, suc, ◌+◌, ◌/◌, ◌%◌}
use native.Mathlib.Omega.{arith}
use mathlib.Core.Path.{◌≡◌, refl, ap, ◌∙◌}
use mathlib.Core.Bool.{Bool, true, false, not, cond, and-eq-true_iff}
use mathlib.Core.List.{List, [], ◌∷◌, ◌++◌, map, map-append}
use borrow.Author.Tests.{ne_eqb, not-true}
use lib.Dec.{ltb, eqb}
use Rattle.text.specs.Numerals.{bytes, digit, digits, places, hex, decimal}
use Rattle.tape.specs.Numbers.{floats}
use Rattle.tape.specs.Machine.{Machine, all}
use Rattle.tape.proofs.Ranges.{all_append}
use Rattle.tape.proofs.Tests.{by_test}
use Rattle.session.specs.Lines.{Operand, n, c, Line, leaf, op, op_7, op_10, mark_set, mark_reset, rewind_mark, rewind_init, clear_adj, pass_back, pass_tomark, pass_tostart, pass_rest, operand_text, text, Reader}
use Rattle.session.specs.Session.{run_line, run_read, lines, Outcome, ended, stopped, run_lines, started}
use Rattle.files.specs.Summed.{file, AllWithin}

-- ---- bytes none of which is a line feed

abbrev whole : List ℕ → Bool
whole bs = all (map (λ b. not (eqb b 10)) bs)

whole_append : (bs cs : List ℕ) → whole bs ≡ true → whole cs ≡ true → whole (bs ++ cs) ≡ true
whole_append bs cs e f = rw (map-append, all_append, e) f

digit_whole : (d : ℕ) → eqb (digit d) 10 ≡ false
digit_whole d = by_test (λ k. eqb k 10 ≡ false) (ltb d 10) (λ _. ne_eqb (48 + d) 10 (λ e. omega arith)) (λ _. ne_eqb (87 + d) 10 (λ e. omega arith))

digits_whole : (b k i : ℕ) → whole (digits b k i) ≡ true
digits_whole b zero i = refl
digits_whole b (suc k) i = whole_append (digits b k (i / b)) (digit (i % b) ∷ []) (digits_whole b k (i / b)) (rw (digit_whole (i % b)))

hex_whole : (i : ℕ) → whole (hex i) ≡ true
hex_whole i = digits_whole 16 16 i

decimal_whole : (i : ℕ) → whole (decimal i) ≡ true
decimal_whole i = digits_whole 10 (places 19 i) i

operand_whole : (x : Operand) → whole (operand_text x) ≡ true
operand_whole (n index) = whole_append (bytes "n") (decimal index) refl (decimal_whole index)
operand_whole (c pattern) = whole_append (bytes "c") (hex pattern) refl (hex_whole pattern)

-- ---- lines

-- whatever stands behind it, this is the first line
abbrev IsLine : List ℕ → Type 0
IsLine bs = (rest : List ℕ) → lines (bs ++ rest) ≡ bs ∷ lines rest

feed : IsLine (bytes "\n")
feed rest = refl

then : (bs cs : List ℕ) → whole bs ≡ true → IsLine cs → IsLine (bs ++ cs)
then [] cs e is = is
then (b ∷ bs) cs e is = λ rest.
    let both = (and-eq-true_iff (not (eqb b 10)) (whole bs)).0 e in
    rw (not-true (eqb b 10) both.0, then bs cs both.1 is rest)

text_line : (l : Line) → IsLine (text l)
text_line (leaf pattern) = then (bytes "leaf=") _ refl (then (hex pattern) _ (hex_whole pattern) feed)
text_line (op k left right) =
    let number = bytes "op=" ++ decimal k ++ bytes " left=" in
    let both = number ++ operand_text left ++ bytes " right=" in
    let number_whole = whole_append (bytes "op=" ++ decimal k) (bytes " left=") (whole_append (bytes "op=") (decimal k) refl (decimal_whole k)) refl in
    let both_whole = whole_append (number ++ operand_text left) (bytes " right=") (whole_append number (operand_text left) number_whole (operand_whole left)) refl in
    then (both ++ operand_text right) _ (whole_append both (operand_text right) both_whole (operand_whole right)) feed
text_line (op_7 left) = then (bytes "op=7 left=") _ refl (then (operand_text left) _ (operand_whole left) feed)
text_line (op_10 left) = then (bytes "op=10 left=") _ refl (then (operand_text left) _ (operand_whole left) feed)
text_line mark_set = then (bytes "mark=set") _ refl feed
text_line mark_reset = then (bytes "mark=reset") _ refl feed
text_line rewind_mark = then (bytes "rewind=mark") _ refl feed
text_line rewind_init = then (bytes "rewind=init") _ refl feed
text_line clear_adj = then (bytes "clear=adj") _ refl feed
text_line (pass_back root) = then (bytes "pass=back root=") _ refl (then (decimal root) _ (decimal_whole root) feed)
text_line (pass_tomark root) = then (bytes "pass=tomark root=") _ refl (then (decimal root) _ (decimal_whole root) feed)
text_line (pass_tostart root) = then (bytes "pass=tostart root=") _ refl (then (decimal root) _ (decimal_whole root) feed)
text_line pass_rest = then (bytes "pass=rest") _ refl feed

lines_file : (ls : List Line) → lines (file ls) ≡ map text ls
lines_file [] = refl
lines_file (l ∷ ls) = text_line l (file ls) ∙ ap (λ rest. text l ∷ rest) (lines_file ls)

-- ---- lines that are read

-- lines in turn, the first of them line k
abbrev pub run_all : ℕ → List Line → Machine floats → Outcome
run_all k [] M = ended M
run_all k (l ∷ ls) M =
    let one = run_line l M in cond (eqb one.0.number 0) (run_all (k + 1) ls one.1) (stopped one.0.number k)

all_read : (R : Reader) (ls : List Line) (k : ℕ) (M : Machine floats) → AllWithin ls → run_lines R.read k (map text ls) M ≡ run_all k ls M
all_read R [] k M w = refl
all_read R (l ∷ ls) k M (w, ws) =
    let one = run_line l M in
    ap (λ o. let one = run_read o M in cond (eqb one.0.number 0) (run_lines R.read (k + 1) (map text ls) one.1) (stopped one.0.number k)) (R.back l w)
    ∙ ap (λ r. cond (eqb one.0.number 0) r (stopped one.0.number k)) (all_read R ls (k + 1) one.1 ws)

pub file_runs : (R : Reader) (ls : List Line) → AllWithin ls → run_lines R.read 1 (lines (file ls)) started ≡ run_all 1 ls started
file_runs R ls w = ap (λ texts. run_lines R.read 1 texts started) (lines_file ls) ∙ all_read R ls 1 started w
