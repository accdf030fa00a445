-- Every line is read back from its text: each numeral is, and none has the space at which words end.
use Prim.Native.Nat.{ℕ, ◌≤◌}
use native.Mathlib.Omega.{arith}
use mathlib.Core.Path.{◌≡◌, refl, ap, ◌∙◌}
use mathlib.Core.Bool.{Bool, true, false, ◌&&◌}
use mathlib.Core.List.{List, [], ◌∷◌, ◌++◌, append-nil}
use mathlib.Core.Option.{some}
use Rattle.std.specs.Prelude.{Some, option_and_then}
use borrow.Author.Tests.{le-leb}
use lib.Dec.{eqb, eqb-suc-zero}
use lib.ListN.{length}
use lib.Seq.{take-append_seam, drop-append_seam}
use Rattle.text.specs.Numerals.{bytes, hex, decimal}
use Rattle.text.specs.Parsed.{read_decimal}
use Rattle.text.proofs.Without.{Without, hex_without, decimal_without}
use Rattle.text.proofs.ReadBack.{every_number}
use Rattle.session.specs.Lines.{Operand, n, c, Line, leaf, op, op_7, op_10, mark_set, mark_reset, rewind_mark, rewind_init, clear_adj, pass_back, pass_tomark, pass_tostart, pass_rest, operand_text, text, Pattern, Index, WithinOperand, Within}
use Rattle.session.specs.Inner.{find, begins, is, source_in, pass_named, with_left, words_as, words, operand_of, line_of, line_read, reading}
use Rattle.session.specs.declared.reading.Source as source
use Rattle.session.specs.declared.reading.Line as code
use Rattle.session.proofs.Bytes.{apart, last_of, regroup}

-- a line is read without its line feed
line_back : (body : List ℕ) {x : code.Line} → words body ≡ Some x → reading (body ++ bytes "\n") ≡ some (line_of x)
line_back body e = rw (last_of body 10, drop-append_seam body (10 ∷ []), take-append_seam body (10 ∷ [])) (ap line_read e)

index_back : (i : ℕ) → Index i → read_decimal 5 (decimal i) ≡ Some i
index_back i h = every_number.decimal_back i 5 (omega arith) (omega arith) h

-- ---- operands

abbrev source_of : Operand → source.Source
source_of (n index) = source.TheVariants.Node index
source_of (c pattern) = source.TheVariants.Number pattern

same_operand : (o : Operand) → operand_of (source_of o) ≡ o
same_operand (n index) = refl
same_operand (c pattern) = refl

operand_back : (o : Operand) → WithinOperand o → source_in (operand_text o) ≡ Some (source_of o)
operand_back (n index) h = rw (index_back index h)
operand_back (c pattern) h = rw (every_number.hex_back pattern h)

operand_without : (o : Operand) → Without 32 (operand_text o)
operand_without (n index) = (λ e. omega arith, decimal_without 32 index (omega arith))
operand_without (c pattern) = (λ e. omega arith, hex_without 32 pattern (omega arith))

-- the left operand ends before the rest
left_back : (number rest : List ℕ) (o : Operand) → WithinOperand o → find 32 rest ≡ 0
    → words_as (bytes "op=" ++ number) (bytes " left=" ++ (operand_text o ++ rest)) ≡ with_left number rest (source_of o)
left_back number rest o h e =
    rw (eqb-suc-zero (length (bytes "left=" ++ (operand_text o ++ rest))))
    (apart (λ l r. option_and_then (with_left number r) (source_in l)) 32 (operand_text o) rest (operand_without o) e ∙ rw (operand_back o h))

and_false : (t : Bool) → t && false ≡ false
and_false true = refl
and_false false = refl

-- and the right operand is the rest
right_back : (number : List ℕ) (k : ℕ) (left : source.Source) (o : Operand) → read_decimal 1 number ≡ Some k → 1 ≤ k → k ≤ 6 → WithinOperand o
    → with_left number (bytes " right=" ++ operand_text o) left ≡ Some (code.TheVariants.Op k left (source_of o))
right_back number k left o e f g h =
    let some : eqb (length (bytes " right=" ++ operand_text o)) 0 ≡ false = eqb-suc-zero (length (bytes "right=" ++ operand_text o)) in
    rw (some, and_false (is (bytes "7") number), and_false (is (bytes "10") number), e, le-leb 1 k f, le-leb k 6 g, operand_back o h)

two_sided_back : (k : ℕ) (left right : Operand) → 1 ≤ k → k ≤ 6 → WithinOperand left → WithinOperand right
    → words (bytes "op=" ++ decimal k ++ bytes " left=" ++ operand_text left ++ bytes " right=" ++ operand_text right) ≡ Some (code.TheVariants.Op k (source_of left) (source_of right))
two_sided_back k left right f g h i =
    let rest = bytes " right=" ++ operand_text right in
    ap words (regroup (bytes "op=") (decimal k) (bytes " left=") (operand_text left) (bytes " right=") (operand_text right))
    ∙ apart (λ number. words_as (bytes "op=" ++ number)) 32 (decimal k) (bytes " left=" ++ (operand_text left ++ rest)) (decimal_without 32 k (omega arith)) refl
    ∙ left_back (decimal k) rest left h refl
    ∙ right_back (decimal k) k (source_of left) right (every_number.decimal_back k 1 (omega arith) (omega arith) (omega arith)) f g i

one_sided_back : (number : List ℕ) (o : Operand) → WithinOperand o → words_as (bytes "op=" ++ number) (bytes " left=" ++ operand_text o) ≡ with_left number [] (source_of o)
one_sided_back number o h = rw (append-nil (operand_text o)) at (left_back number [] o h refl)

-- ---- lines

leaf_back : (pattern : ℕ) → Pattern pattern → words (bytes "leaf=" ++ hex pattern) ≡ Some (code.TheVariants.Leaf pattern)
leaf_back pattern h =
    let front = apart (λ digits. words_as (bytes "leaf=" ++ digits)) 32 (hex pattern) [] (hex_without 32 pattern (omega arith)) refl in
    rw (append-nil (hex pattern)) at front ∙ rw (every_number.hex_back pattern h)

root_back : (first : List ℕ) (root : ℕ) → begins (bytes "op=") first ≡ false → Index root → words_as first (bytes " root=" ++ decimal root) ≡ pass_named first root
root_back first root e h = rw (eqb-suc-zero (length (bytes "root=" ++ decimal root)), e, index_back root h)

pub back : (l : Line) → Within l → reading (text l) ≡ some l
back (leaf pattern) h = line_back (bytes "leaf=" ++ hex pattern) (leaf_back pattern h)
back (op k left right) (f, g, h, i) =
    let body = bytes "op=" ++ decimal k ++ bytes " left=" ++ operand_text left ++ bytes " right=" ++ operand_text right in
    line_back body (two_sided_back k left right f g h i) ∙ rw (same_operand left, same_operand right)
back (op_7 left) h = line_back (bytes "op=7 left=" ++ operand_text left) (one_sided_back (bytes "7") left h) ∙ rw (same_operand left)
back (op_10 left) h = line_back (bytes "op=10 left=" ++ operand_text left) (one_sided_back (bytes "10") left h) ∙ rw (same_operand left)
back mark_set h = refl
back mark_reset h = refl
back rewind_mark h = refl
back rewind_init h = refl
back clear_adj h = refl
back (pass_back root) h = line_back (bytes "pass=back root=" ++ decimal root) (root_back (bytes "pass=back") root refl h)
back (pass_tomark root) h = line_back (bytes "pass=tomark root=" ++ decimal root) (root_back (bytes "pass=tomark") root refl h)
back (pass_tostart root) h = line_back (bytes "pass=tostart root=" ++ decimal root) (root_back (bytes "pass=tostart") root refl h)
back pass_rest h = refl
