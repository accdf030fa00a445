-- How long the header, a line and all lines are, and the lines from an index on, the first of them taken off.
use Prim.Native.Nat.{ℕ, zero, suc, ◌+◌, ◌-◌, ◌*◌, ◌≤◌, ◌<◌}
use native.Mathlib.Omega.{arith}
use mathlib.Core.Path.{◌≡◌, refl, ap, ◌∙◌}
use mathlib.Core.Bool.{Bool, true, false, cond}
use mathlib.Core.List.{List, ◌++◌}
use lib.ListN.{length, length-append}
use Rattle.tape.specs.Numbers.{floats}
use Rattle.tape.specs.Machine.{Arrays, machine}
use Rattle.tape.specs.Walk.{indexes}
use Rattle.text.specs.Numerals.{decimal}
use Rattle.tape.specs.Listing.{header, line, lines, listing}
use Rattle.tape.specs.declared.tape.Tape.{Tape}
use Rattle.tape.proofs.Ranges.{indexes_first}
use Rattle.text.proofs.Numerals.{length_hex}
use Rattle.listing.proofs.Numerals.{beyond, longer, index_length}

one_digit : (b : Bool) → length (decimal (cond b 1 0)) ≡ 1
one_digit true = refl
one_digit false = refl

pub header_length : (t : Tape) → length (header t) ≡ 22 + length (decimal t.length) + length (decimal t.mark)
header_length t = simp (length-append, one_digit) (omega arith)

module _ (A : Arrays floats) where
  pub line_length : (i : ℕ) → length (line A i) ≡ 48 + length (decimal i)
  line_length i = simp (length-append, length_hex) (omega arith)

  part_length : (n i k : ℕ) → n ≤ 100000 → i + k ≡ n → length (lines A (indexes i k)) + longer i ≡ 49 * k + longer n
  part_length n i zero h e = let f : i ≡ n = omega arith in rw f (omega arith)
  part_length n i (suc k) h e =
      omega (arith, length-append (line A i) (lines A (indexes (suc i) k)), line_length i, index_length i (omega arith), part_length n (suc i) k h (omega arith))

  pub lines_length : (n : ℕ) → n ≤ 100000 → length (lines A (indexes 0 n)) ≡ 49 * n + ((n - 10) + (n - 100) + (n - 1000) + (n - 10000))
  unfolding beyond
  lines_length n h = omega (arith, part_length n 0 n h (omega arith))

  -- the lines from i on
  abbrev pub lines_from : ℕ → ℕ → List ℕ
  lines_from n i = lines A (indexes i (n - i))

  pub first_line : (n i : ℕ) → i < n → lines_from n i ≡ line A i ++ lines_from n (i + 1)
  first_line n i h = ap (lines A) (indexes_first i n h)

  pub first_length : (n i : ℕ) → i < n → length (lines_from n i) ≡ 48 + length (decimal i) + length (lines_from n (i + 1))
  first_length n i h = ap length (first_line n i h) ∙ rw (length-append (line A i) (lines_from n (i + 1)), line_length i)

pub listing_length : (t : Tape) (A : Arrays floats) → length (listing (machine t A)) ≡ 22 + length (decimal t.length) + length (decimal t.mark) + length (lines A (indexes 0 t.length))
listing_length t A = length-append (header t) (lines A (indexes 0 t.length)) ∙ rw (header_length t)
