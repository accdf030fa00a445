-- The number of places is the number of digits.
use Prim.Native.Nat.{ℕ}
use mathlib.Core.Path.{◌≡◌, ap, ◌∙◌}
use lib.ListN.{length}
use Rattle.text.specs.Numerals.{digits, places, decimal}
use Rattle.text.proofs.Numerals.{length_digits}
use Rattle.text.proofs.write.write_decimal.Goals as goal

all_places : (k n : ℕ) → k ≡ length (decimal n) → digits 10 k n ≡ decimal n
all_places k n e = ap (λ j. digits 10 j n) (e ∙ length_digits 10 (places 19 n) n)

pub returns : goal.returns
returns c = rw (all_places _ _ c.decimal_length.ensures) at c.write_digits.ensures
