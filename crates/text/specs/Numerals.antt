-- Texts as lists of bytes, and how a number is written.
use Rattle.std.specs.Prelude.{ℕ, zero, suc, ◌+◌, ◌/◌, ◌%◌, cond, List, [], ◌∷◌, ◌++◌, ltb}
use Prim.Native.Char.{code}
use Prim.Native.String.{String, [] as no_text, ◌∷◌ as ◌before◌}

-- the bytes of a text in ASCII
abbrev pub bytes : String → List ℕ
bytes no_text = []
bytes (c before text) = code c ∷ bytes text

-- the byte of a digit below 16: 0 to 9, then a to f
abbrev pub digit : ℕ → ℕ
digit d = cond (ltb d 10) (48 + d) (87 + d)

-- the last k digits of n in base b, the highest first
abbrev pub digits : ℕ → ℕ → ℕ → List ℕ
digits b zero n = []
digits b (suc k) n = digits b k (n / b) ++ (digit (n % b) ∷ [])

-- 16 hex digits for the bits of a number
abbrev pub hex : ℕ → List ℕ
hex n = digits 16 16 n

-- how many decimal digits n has, up to k and one more
abbrev pub places : ℕ → ℕ → ℕ
places zero n = 1
places (suc k) n = cond (ltb n 10) 1 (suc (places k (n / 10)))

-- no leading zero; a number of 64 bits has at most 20 digits
abbrev pub decimal : ℕ → List ℕ
decimal n = digits 10 (places 19 n) n
