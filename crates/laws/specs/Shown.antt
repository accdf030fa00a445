-- How two ways to write a formula are shown at some numbers: by the bits of every part, value parts before derivative
-- parts. Any NaN has the bits 7ff8000000000000 (`to_bits`).
use Rattle.std.specs.Prelude.{ℕ, ◌≡◌, List, map, Float}
use Rattle.std.specs.Float.{binary64}
use Rattle.std.specs.Float.Ieee.{to_bits, div}
use Rattle.forward.specs.Forward.{Fwd}
use Rattle.forward.specs.Rows.{float, parts}

abbrev pub bits : (n : ℕ) → Fwd n → List ℕ
bits n x = map (to_bits binary64) (parts n x)

-- both have the bits ks
abbrev pub Kept : (n : ℕ) → Fwd n → Fwd n → List ℕ → Type 0
Kept n this that ks = (bits n this ≡ ks) × (bits n that ≡ ks)

-- one has the bits ks, the other has the bits ls, and they are not the same number
abbrev pub Changed : (n : ℕ) → Fwd n → Fwd n → List ℕ → List ℕ → Type 0
Changed n this that ks ls = (bits n this ≡ ks) × (bits n that ≡ ls) × (this ≡ that → ⊥)

-- k / 10, rounded: `tenths 1` is what 0.1 stands for in a program
abbrev pub tenths : ℕ → Float
tenths k = div binary64 (float k) (float 10)
