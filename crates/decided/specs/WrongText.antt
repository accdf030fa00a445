-- Wrong answers that the promises of crate `text` rule out, two or more for each function. `Tried` says what a row is;
-- `TextTried` is proved in proofs/Text.antt, by computation.
use Rattle.std.specs.Prelude.{ℕ, ◌≡◌, true, Option, Some, None, List, [], ◌∷◌, ◌++◌, length, replicate}
use Rattle.text.specs.Numerals.{bytes, digits, hex, decimal}
use Rattle.text.specs.Written.{written}
use Rattle.text.specs.Parsed as parsed
use Rattle.decided.specs.Tried.{Tried, tried, ruled_out}

-- ---- how answers are written out

-- the place, and the bytes
abbrev pub a_written : ℕ × List ℕ → ℕ × List ℕ → Tried
a_written = tried (λ (end, out). end ∷ out)

abbrev pub a_length : ℕ → ℕ → Tried
a_length = tried (λ k. k ∷ [])

abbrev pub number_shown : Option ℕ → List ℕ
number_shown (Some n) = n ∷ []
number_shown None = []

abbrev pub a_parsed : Option ℕ → Option ℕ → Tried
a_parsed = tried number_shown

-- ---- the wrong answers

abbrev pub ones : ℕ → List ℕ
ones n = replicate n 1

-- write_text: as much of it as fits; nothing where it fits to the last byte; the bytes behind it cleared
abbrev pub write_text_tried : List Tried
write_text_tried =
    a_written (written (ones 3) 2 (bytes "10")) (3, ones 2 ++ bytes "1")
    ∷ a_written (written (ones 3) 1 (bytes "10")) (1, ones 3)
    ∷ a_written (written (ones 3) 0 (bytes "10")) (2, bytes "10" ++ (0 ∷ [])) ∷ []

-- write_hex: in upper case; the lowest digit first; the leading zeros left out
abbrev pub write_hex_tried : List Tried
write_hex_tried =
    a_written (written (ones 16) 0 (hex 0xabcd_ef01)) (16, bytes "00000000ABCDEF01")
    ∷ a_written (written (ones 16) 0 (hex 0xabcd_ef01)) (16, bytes "10fedcba00000000")
    ∷ a_written (written (ones 16) 0 (hex 0xabcd_ef01)) (8, bytes "abcdef01" ++ ones 8) ∷ []

-- write_decimal: a leading zero; the place where it begins answered, and not the one behind it
abbrev pub write_decimal_tried : List Tried
write_decimal_tried = a_written (written (ones 3) 0 (decimal 45)) (3, bytes "045") ∷ a_written (written (ones 3) 0 (decimal 45)) (0, bytes "45" ++ ones 1) ∷ []

-- write_digits: the first digits for the last; their leading zeros left out
abbrev pub write_digits_tried : List Tried
write_digits_tried = a_written (written (ones 3) 0 (digits 10 3 12045)) (3, bytes "120") ∷ a_written (written (ones 3) 0 (digits 10 3 12045)) (2, bytes "45" ++ ones 1) ∷ []

-- decimal_length: none for 0; one for 10
abbrev pub decimal_length_tried : List Tried
decimal_length_tried = a_length (length (decimal 0)) 0 ∷ a_length (length (decimal 10)) 1 ∷ []

-- read_hex: digits in upper case read; 15 digits read
abbrev pub read_hex_tried : List Tried
read_hex_tried =
    a_parsed (parsed.read_hex (bytes "3FF0000000000000")) (Some 0x3ff0_0000_0000_0000)
    ∷ a_parsed (parsed.read_hex (bytes "3ff000000000000")) (Some 0x3ff_0000_0000_0000) ∷ []

-- read_hex_start: the digits taken for the last ones; the seventeenth left away
abbrev pub read_hex_start_tried : List Tried
read_hex_start_tried =
    a_parsed (parsed.read_hex_start (bytes "3ff")) (Some 0x3ff)
    ∷ a_parsed (parsed.read_hex_start (bytes "3ff00000000000000")) (Some 0x3ff0_0000_0000_0000) ∷ []

-- read_digits: the number that stands before what is no digit; the first digits of too many; 0 where there is none
abbrev pub read_digits_tried : List Tried
read_digits_tried =
    a_parsed (parsed.read_digits 5 (bytes "16a")) (Some 16) ∷ a_parsed (parsed.read_digits 5 (bytes "123456")) (Some 12345) ∷ a_parsed (parsed.read_digits 5 []) (Some 0) ∷ []

-- read_decimal: a leading zero read; 0 refused
abbrev pub read_decimal_tried : List Tried
read_decimal_tried = a_parsed (parsed.read_decimal 5 (bytes "05")) (Some 5) ∷ a_parsed (parsed.read_decimal 5 (bytes "0")) None ∷ []

abbrev pub text_tried : List Tried
text_tried =
    write_text_tried ++ write_hex_tried ++ write_decimal_tried ++ write_digits_tried ++ decimal_length_tried
    ++ read_hex_tried ++ read_hex_start_tried ++ read_digits_tried ++ read_decimal_tried

-- none of them is the rule's answer
abbrev pub TextTried : Type 0
TextTried = ruled_out text_tried ≡ true
