-- What is read as a number: Some of it, or None.
use Rattle.std.specs.Prelude.{ℕ, ◌+◌, ◌-◌, ◌*◌, Bool, ◌&&◌, cond, Option, Some, None, List, [], ◌∷◌, ◌++◌, leb, ltb, eqb, length, drop, get_or, replicate}

-- the value of a byte as a digit, 0 to 9 and a to f; 16, which no digit has, if it is none
abbrev pub digit_value : ℕ → ℕ
digit_value byte = cond (leb 48 byte && leb byte 57) (byte - 48) (cond (leb 97 byte && leb byte 102) (byte - 87) 16)

-- the number that n and the digits after it make in base b, if they are digits of that base
abbrev pub read_on : ℕ → ℕ → List ℕ → Option ℕ
read_on b n [] = Some n
read_on b n (byte ∷ text) = cond (ltb (digit_value byte) b) (read_on b (b * n + digit_value byte) text) None

-- 16 hex digits, and nothing else
abbrev pub read_hex : List ℕ → Option ℕ
read_hex text = cond (eqb (length text) 16) (read_on 16 0 text) None

-- at most 16 hex digits: the first of 16, the others being zeros that are left out
abbrev pub read_hex_start : List ℕ → Option ℕ
read_hex_start text = read_hex (text ++ drop (length text) (replicate 16 48))

-- 1 to `most` decimal digits, and at most 19, which 64 bits hold
abbrev pub read_digits : ℕ → List ℕ → Option ℕ
read_digits most text =
    cond (leb 1 (length text) && leb (length text) most && leb (length text) 19) (read_on 10 0 text) None

-- a zero with something after it
abbrev pub leading_zero : List ℕ → Bool
leading_zero text = ltb 1 (length text) && eqb (get_or text 0 0) 48

-- the same with no leading zero
abbrev pub read_decimal : ℕ → List ℕ → Option ℕ
read_decimal most text = cond (leading_zero text) None (read_digits most text)
