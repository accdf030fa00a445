-- No byte of a numeral is below that of 0, so none is a blank, a line's end or a comma.
use Prim.Native.Nat.{ℕ, zero, suc, ◌+◌, ◌/◌, ◌%◌, ◌≤◌, ◌<◌}
use native.Mathlib.Omega.{arith}
use mathlib.Core.Path.{◌≡◌}
use mathlib.Core.Bool.{Bool, true, false, cond}
use mathlib.Core.List.{List, [], ◌∷◌, ◌++◌}
use lib.Dec.{ltb}
use Rattle.text.specs.Numerals.{digit, digits, places, hex, decimal}

-- the byte x stands nowhere in a text
abbrev pub Without : ℕ → List ℕ → Type 0
Without x [] = Unit {0}
Without x (y ∷ ys) = (y ≡ x → ⊥) × Without x ys

pub without_append : (x : ℕ) (front back : List ℕ) → Without x front → Without x back → Without x (front ++ back)
without_append x [] back f b = b
without_append x (y ∷ front) back f b = (f.0, without_append x front back f.1 b)

-- the byte of 0 is the least that a digit has
digit_least : (d : ℕ) → 48 ≤ digit d
digit_least d = one_of (ltb d 10)
  where
    one_of : (t : Bool) → 48 ≤ cond t (48 + d) (87 + d)
    one_of true = omega arith
    one_of false = omega arith

pub digits_without : (x b k n : ℕ) → x < 48 → Without x (digits b k n)
digits_without x b zero n h = tt
digits_without x b (suc k) n h =
    let front = digits_without x b k (n / b) h in
    let least = digit_least (n % b) in
    without_append x (digits b k (n / b)) (digit (n % b) ∷ []) front (λ e. omega arith, tt)

pub hex_without : (x n : ℕ) → x < 48 → Without x (hex n)
hex_without x n = digits_without x 16 16 n

pub decimal_without : (x n : ℕ) → x < 48 → Without x (decimal n)
decimal_without x n = digits_without x 10 (places 19 n) n
