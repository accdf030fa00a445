-- What is read is the text of the line that was read: each test that passed says what stands there.
use Prim.Native.Nat.{ℕ, ◌-◌, ◌^◌, ◌≤◌, ◌<◌}
use mathlib.Core.Path.{◌≡◌, refl, sym, ap, subst}
use mathlib.Core.Bool.{true, ◌&&◌, and-eq-true_iff}
use mathlib.Core.List.{List, [], ◌∷◌, ◌++◌, append-nil}
use mathlib.Core.Option as math
use Rattle.std.specs.Prelude.{Option, Some, None, option_and_then}
use Rattle.std.specs.Option.{option_map}
use Rattle.std.specs.Str.{bytes_eq}
use borrow.Author.Tests.{leb-true}
use lib.Dec.{leb}
use lib.ListN.{length, take, drop, take-append-drop}
use Rattle.text.specs.Numerals.{bytes, hex, decimal}
use Rattle.text.specs.Parsed.{read_hex, read_decimal}
use Rattle.tape.proofs.Tests.{by_test}
use Rattle.text.proofs.ReadBack.{every_number}
use Rattle.session.specs.Lines.{Line, operand_text, text, Pattern, Index, WithinOperand, Within}
use Rattle.session.specs.Inner.{find, leaf_of, source_in, pass_named, pass_line, two_sided, with_left, operation, word, words_as, words, operand_of, line_read, reading}
use Rattle.session.specs.declared.reading.Source as source
use Rattle.session.specs.declared.reading.Line as code
use Rattle.session.proofs.Bytes.{by_start, by_word, by_end, by_last_word, with_last, regroup}

-- what was read from a text, if anything was, is within its limits and has that text
abbrev Spells : List ℕ → math.Option Line → Type 0
Spells bytes math.none = Unit {0}
Spells bytes (math.some l) = Within l × (bytes ≡ text l)

-- the same of a body, without its line feed
record Says (body : List ℕ) (x : Option code.Line) : Type 0 where
  so : Spells (body ++ bytes "\n") (line_read x)

says : {body : List ℕ} {x : Option code.Line} → Spells (body ++ bytes "\n") (line_read x) → Says body x
says h = record { so = h }

nothing : {body : List ℕ} → Says body None
nothing = record { so = tt }

-- ---- numerals and operands: what holds of their texts holds of a text that was read as one

module _ (P : List ℕ → Option ℕ → Type 0) (text : List ℕ) where
  by_number : (p : Option ℕ) (numeral : ℕ → List ℕ) (Small : ℕ → Type 0) → ((k : ℕ) → p ≡ Some k → Small k × (text ≡ numeral k))
      → ((k : ℕ) → Small k → P (numeral k) (Some k)) → P text None → P text p
  by_number (Some k) numeral Small law f g = let (h, same) = law k refl in subst (λ l. P l (Some k)) (sym same) (f k h)
  by_number None numeral Small law f g = g

  by_hex : ((k : ℕ) → Pattern k → P (hex k) (Some k)) → P text None → P text (read_hex text)
  by_hex = by_number (read_hex text) hex Pattern (every_number.hex_alone text)

  by_decimal : (most : ℕ) → ((k : ℕ) → k < 10 ^ most → P (decimal k) (Some k)) → P text None → P text (read_decimal most text)
  by_decimal most = by_number (read_decimal most text) decimal (λ k. k < 10 ^ most) (every_number.decimal_alone most text)

by_operand : (P : List ℕ → Option source.Source → Type 0) (text : List ℕ)
    → ((s : source.Source) → WithinOperand (operand_of s) → P (operand_text (operand_of s)) (Some s))
    → ((text : List ℕ) → P text None) → P text (source_in text)
by_operand P text f g =
    by_start P (bytes "n") text
    (by_decimal (λ l p. P (bytes "n" ++ l) (option_map source.TheVariants.Node p)) (drop 1 text) 5 (λ k h. f (source.TheVariants.Node k) h) (g (bytes "n" ++ drop 1 text)))
    (by_start P (bytes "c") text
    (by_hex (λ l p. P (bytes "c" ++ l) (option_map source.TheVariants.Number p)) (drop 1 text) (λ k h. f (source.TheVariants.Number k) h) (g (bytes "c" ++ drop 1 text)))
    (g text))

-- ---- words

leaf_says : (first : List ℕ) → Says first (leaf_of first)
leaf_says first =
    by_start Says (bytes "leaf=") first
    (by_hex (λ l p. Says (bytes "leaf=" ++ l) (option_map code.TheVariants.Leaf p)) (drop 5 first) (λ k h. says (h, refl)) nothing)
    nothing

word_says : (first : List ℕ) → Says first (word first)
word_says first =
    by_word Says (bytes "mark=set") first (says (tt, refl))
    (by_word Says (bytes "mark=reset") first (says (tt, refl))
    (by_word Says (bytes "rewind=mark") first (says (tt, refl))
    (by_word Says (bytes "rewind=init") first (says (tt, refl))
    (by_word Says (bytes "clear=adj") first (says (tt, refl))
    (by_word Says (bytes "pass=rest") first (says (tt, refl))
    (leaf_says first))))))

abbrev Rooted : ℕ → List ℕ → Option code.Line → Type 0
Rooted root first = Says (first ++ (bytes " root=" ++ decimal root))

root_says : (first : List ℕ) (root : ℕ) → Index root → Rooted root first (pass_named first root)
root_says first root h =
    by_word (Rooted root) (bytes "pass=back") first (says (h, refl))
    (by_word (Rooted root) (bytes "pass=tomark") first (says (h, refl))
    (by_word (Rooted root) (bytes "pass=tostart") first (says (h, refl)) nothing))

pass_says : (first rest : List ℕ) → Says (first ++ rest) (pass_line first rest)
pass_says first rest =
    by_start (λ l. Says (first ++ l)) (bytes " root=") rest
    (by_decimal (λ l p. Says (first ++ (bytes " root=" ++ l)) (option_and_then (pass_named first) p)) (drop 6 rest) 5 (root_says first) nothing)
    nothing

-- ---- operations

-- by their left operand, number and rest
abbrev Operation : List ℕ → List ℕ → List ℕ → Option code.Line → Type 0
Operation left number rest = Says (bytes "op=" ++ (number ++ (bytes " left=" ++ (left ++ rest))))

one_to_six : (k : ℕ) → leb 1 k && leb k 6 ≡ true → (1 ≤ k) × (k ≤ 6)
one_to_six k e = let (low, high) = (and-eq-true_iff (leb 1 k) (leb k 6)).0 e in (leb-true 1 k low, leb-true k 6 high)

module _ (left : source.Source) (h : WithinOperand (operand_of left)) where
  abbrev written : List ℕ
  written = operand_text (operand_of left)

  right_says : (k : ℕ) (right : List ℕ) → (1 ≤ k) × (k ≤ 6) → Operation written (decimal k) (bytes " right=" ++ right) (option_map (code.TheVariants.Op k left) (source_in right))
  right_says k right (low, high) =
      by_operand (λ l s. Operation written (decimal k) (bytes " right=" ++ l) (option_map (code.TheVariants.Op k left) s)) right
      (λ s i. says ((low, high, h, i), ap (λ l. l ++ bytes "\n") (sym (regroup (bytes "op=") (decimal k) (bytes " left=") written (bytes " right=") (operand_text (operand_of s))))))
      (λ l. nothing)

  two_sided_says : (k : ℕ) (rest : List ℕ) → Operation written (decimal k) rest (two_sided left rest k)
  two_sided_says k rest =
      by_test (Operation written (decimal k) rest) (leb 1 k && leb k 6)
      (λ e. by_start (Operation written (decimal k)) (bytes " right=") rest (right_says k (drop 7 rest) (one_to_six k e)) nothing)
      (λ e. nothing)

  with_left_says : (number rest : List ℕ) → Operation written number rest (with_left number rest left)
  with_left_says number rest =
      by_last_word (Operation written) (bytes "7") number rest (says (h, rw (append-nil written)))
      (by_last_word (Operation written) (bytes "10") number rest (says (h, rw (append-nil written)))
      (by_decimal (λ l p. Operation written l rest (option_and_then (two_sided left rest) p)) number 1 (λ k h. two_sided_says k rest) nothing))

left_says : (number left rest : List ℕ) → Operation left number rest (option_and_then (with_left number rest) (source_in left))
left_says number left rest = by_operand (λ l s. Operation l number rest (option_and_then (with_left number rest) s)) left (λ s h. with_left_says s h number rest) (λ l. nothing)

operation_says : (number rest : List ℕ) → Says (bytes "op=" ++ number ++ rest) (operation number rest)
operation_says number rest =
    let operands = drop 6 rest in
    let end = find 32 operands in
    let left = take end operands in
    let after = drop end operands in
    by_start (λ l. Says (bytes "op=" ++ number ++ l)) (bytes " left=") rest
    (subst (λ l. Says (bytes "op=" ++ (number ++ (bytes " left=" ++ l))) (option_and_then (with_left number after) (source_in left))) (take-append-drop end operands) (left_says number left after))
    nothing

-- ---- lines

words_as_says : (first rest : List ℕ) → Says (first ++ rest) (words_as first rest)
words_as_says first rest =
    by_end (λ l. Says (first ++ l)) rest (rw (append-nil first) (word_says first))
    (by_start (λ l. Says (l ++ rest)) (bytes "op=") first (operation_says (drop 3 first) rest) (pass_says first rest))

words_say : (body : List ℕ) → Says body (words body)
words_say body = let end = find 32 body in subst (λ l. Says l (words body)) (take-append-drop end body) (words_as_says (take end body) (drop end body))

line_spells : (line : List ℕ) → Spells line (reading line)
line_spells line =
    let last = length line - 1 in
    by_test (λ x. Spells line (line_read x)) (bytes_eq (drop last line) (10 ∷ []))
    (λ e. subst (λ l. Spells l (line_read (words (take last line)))) (with_last line 10 e) (words_say (take last line)).so)
    (λ e. tt)

pub only : (bytes : List ℕ) (l : Line) → reading bytes ≡ math.some l → Within l × (bytes ≡ text l)
only bytes l e = subst (Spells bytes) e (line_spells bytes)
