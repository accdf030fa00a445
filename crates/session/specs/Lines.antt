-- The grammar: the lines of a session file, and the text of each, byte for byte. Any other line is malformed.
use Rattle.std.specs.Prelude.{ℕ, ◌^◌, ◌≤◌, ◌<◌, ◌≡◌, List, ◌++◌}
use Rattle.std.proofs.Math.Option.{Option, some}
use Rattle.text.specs.Numerals.{bytes, hex, decimal}

-- an operand: the node of an index, or the number of a pattern
pub data Operand : Type 0 where
  n c : ℕ → Operand

-- A line holds patterns of 64 bits and no floats: which NaN its digits write, a float could not give back
pub data Line : Type 0 where
  leaf : ℕ → Line
  -- operations 1 to 6
  op : ℕ → Operand → Operand → Line
  op_7 op_10 : Operand → Line
  mark_set mark_reset : Line
  rewind_mark rewind_init : Line
  clear_adj : Line
  -- from a root, to the mark, or from the mark to the start; the last also without a root
  pass_back pass_tomark pass_tostart : ℕ → Line
  pass_rest : Line

abbrev pub operand_text : Operand → List ℕ
operand_text (n index) = bytes "n" ++ decimal index
operand_text (c pattern) = bytes "c" ++ hex pattern

-- with the line feed that ends it
abbrev pub text : Line → List ℕ
text (leaf pattern) = bytes "leaf=" ++ hex pattern ++ bytes "\n"
text (op k left right) =
    bytes "op=" ++ decimal k ++ bytes " left=" ++ operand_text left ++ bytes " right=" ++ operand_text right ++ bytes "\n"
text (op_7 left) = bytes "op=7 left=" ++ operand_text left ++ bytes "\n"
text (op_10 left) = bytes "op=10 left=" ++ operand_text left ++ bytes "\n"
text mark_set = bytes "mark=set\n"
text mark_reset = bytes "mark=reset\n"
text rewind_mark = bytes "rewind=mark\n"
text rewind_init = bytes "rewind=init\n"
text clear_adj = bytes "clear=adj\n"
text (pass_back root) = bytes "pass=back root=" ++ decimal root ++ bytes "\n"
text (pass_tomark root) = bytes "pass=tomark root=" ++ decimal root ++ bytes "\n"
text (pass_tostart root) = bytes "pass=tostart root=" ++ decimal root ++ bytes "\n"
text pass_rest = bytes "pass=rest\n"

-- a pattern has 64 bits, which are 16 digits; an index has 1 to 5 digits
abbrev pub Pattern : ℕ → Type 0
Pattern pattern = pattern < 2 ^ 64

abbrev pub Index : ℕ → Type 0
Index index = index < 10 ^ 5

abbrev pub WithinOperand : Operand → Type 0
WithinOperand (n index) = Index index
WithinOperand (c pattern) = Pattern pattern

-- the limits of each line
abbrev pub Within : Line → Type 0
Within (leaf pattern) = Pattern pattern
Within (op k left right) = (1 ≤ k) × (k ≤ 6) × WithinOperand left × WithinOperand right
Within (op_7 left) = WithinOperand left
Within (op_10 left) = WithinOperand left
Within mark_set = Unit {0}
Within mark_reset = Unit {0}
Within rewind_mark = Unit {0}
Within rewind_init = Unit {0}
Within clear_adj = Unit {0}
Within (pass_back root) = Index root
Within (pass_tomark root) = Index root
Within (pass_tostart root) = Index root
Within pass_rest = Unit {0}

-- What reads lines is the inverse of `text`, both ways: every line within the limits is read back from its text, and
-- what is read is the text of that line
pub record Reader : Type 0 where
  pub read : List ℕ → Option Line
  pub back : (l : Line) → Within l → read (text l) ≡ some l
  pub only : (given : List ℕ) (l : Line) → read given ≡ some l → Within l × (given ≡ text l)

-- there is one, and no other. Proved in proofs/Reader.antt
pub record OneReader : Type 0 where
  pub reader : Reader
  pub alone : (R S : Reader) (given : List ℕ) → R.read given ≡ S.read given
