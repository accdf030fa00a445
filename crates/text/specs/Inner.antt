-- What private functions promise, here and in the crates that write texts of several parts. Only proofs use it; every
-- public promise speaks of `written`.
use Rattle.std.specs.Prelude.{ℕ, ◌+◌, ◌*◌, ◌≡◌, cond, Option, Some, None, List, [], ◌∷◌, ltb, length}
use Rattle.std.proofs.lemmas.List.Edits.{sets}
use Rattle.text.specs.Parsed.{digit_value}

-- a text was written from a place on, and the place behind it is answered
pub record Wrote (before : List ℕ) (at : ℕ) (text after : List ℕ) (end : ℕ) : Type 0 where
  pub bytes : after ≡ sets before at text
  pub behind : end ≡ at + length text

-- bytes in one number, the first lowest
abbrev pub packed : List ℕ → ℕ
packed [] = 0
packed (byte ∷ bytes) = byte + 256 * packed bytes

-- the value of a byte that is a digit of base b
abbrev pub digit_in : ℕ → ℕ → Option ℕ
digit_in b byte = cond (ltb (digit_value byte) b) (Some (digit_value byte)) None
