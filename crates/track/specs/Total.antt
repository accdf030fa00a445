-- Sums over a list.
use Rattle.std.specs.Prelude.{ℕ, ◌+◌, List, [], ◌∷◌, from_bits, Float}
use Rattle.std.specs.Float.{binary64}
use Rattle.std.specs.Float.Ieee.{add}

-- f of each element, added up
abbrev pub total : (ℕ → ℕ) → List ℕ → ℕ
total f [] = 0
total f (x ∷ xs) = f x + total f xs

-- f of each element, added in floats to a sum, from the first on
abbrev pub added_to : Float → (ℕ → Float) → List ℕ → Float
added_to sum f [] = sum
added_to sum f (x ∷ xs) = added_to (add binary64 sum (f x)) f xs

-- the same from +0.0 on
abbrev pub float_total : (ℕ → Float) → List ℕ → Float
float_total f xs = added_to (from_bits binary64 0) f xs
