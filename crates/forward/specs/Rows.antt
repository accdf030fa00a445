-- Rows P9 to P12 of document 01's table, and one of C-13's square root: what is reckoned at which order, and what has to
-- be seen. `EveryRow` and `Holds root_at_four` are proved in proofs/Rows.antt, by computation.
use Rattle.std.specs.Prelude.{ℕ, zero, suc, ◌≡◌, List, [], ◌∷◌, ◌++◌, map, pos, Float}
use Rattle.std.specs.Float.{binary64}
use Rattle.std.specs.Float.Ieee.{div, neg, of_int, to_bits}
use Rattle.forward.specs.Forward.{Fwd, constant, variable, value, derivative, product, quotient_plain, plain_difference, sqrt, nought}

-- ---- what a row is

-- what is reckoned, of forward numbers and plain ones
pub data Formula : Type 0 where
  constantly variably : Float → Formula
  times : Formula → Formula → Formula
  over_plain : Formula → Float → Formula
  plain_minus : Float → Formula → Formula
  root_of : Formula → Formula

abbrev pub reckoned : (n : ℕ) → Formula → Fwd n
reckoned n (constantly c) = constant n c
reckoned n (variably v) = variable n v
reckoned n (times f g) = product n (reckoned n f) (reckoned n g)
reckoned n (over_plain f k) = quotient_plain n (reckoned n f) k
reckoned n (plain_minus k f) = plain_difference n k (reckoned n f)
reckoned n (root_of f) = sqrt n (reckoned n f)

-- every part, value parts before derivative parts
abbrev pub parts : (n : ℕ) → Fwd n → List Float
parts zero x = x ∷ []
parts (suc n) (a, b) = parts n a ++ parts n b

-- what is to be seen of the number: its derivatives, the value first; the bits of its value; the bits of all its parts
pub data Sight : Type 0 where
  derivatives : List Float → Sight
  value_bits : ℕ → Sight
  part_bits : List ℕ → Sight

-- the derivatives from the k-th on
abbrev pub Derivatives : (k n : ℕ) → Fwd n → List Float → Type 0
Derivatives k n x [] = Unit {0}
Derivatives k n x (d ∷ ds) = (derivative k n x ≡ d) × Derivatives (suc k) n x ds

abbrev pub Seen : (n : ℕ) → Fwd n → Sight → Type 0
Seen n x (derivatives ds) = Derivatives 0 n x ds
Seen n x (value_bits k) = to_bits binary64 (value n x) ≡ k
Seen n x (part_bits ks) = map (to_bits binary64) (parts n x) ≡ ks

pub record Row : Type 0 where
  pub order : ℕ
  pub formula : Formula
  pub sight : Sight

abbrev pub Holds : Row → Type 0
Holds r = Seen r.order (reckoned r.order r.formula) r.sight

abbrev pub All : List Row → Type 0
All [] = Unit {0}
All (r ∷ rs) = Holds r × All rs

-- the float of the whole number n
abbrev pub float : ℕ → Float
float n = of_int binary64 (pos n)

-- ---- the rows

-- P9 Fwd2 cube at 3: 27, 27, 18
abbrev pub P9 : Row
P9 =
    let x = variably (float 3) in record { order = 2; formula = times (times x x) x; sight = derivatives (float 27 ∷ float 27 ∷ float 18 ∷ []) }

-- P10 Fwd4 fourth power at 2: 16, 32, 48, 48, 24
abbrev pub P10 : Row
P10 =
    let x = variably (float 2) in record { order = 4; formula = times (times (times x x) x) x; sight = derivatives (float 16 ∷ float 32 ∷ float 48 ∷ float 48 ∷ float 24 ∷ []) }

-- P11 Fwd1 constant 49 over plain 49: value bits 3fefffffffffffff
abbrev pub P11 : Row
P11 =
    record { order = 1; formula = over_plain (constantly (float 49)) (float 49); sight = value_bits 0x3fef_ffff_ffff_ffff }

-- P12 plain 3 minus Fwd2 constant 0: parts ((3, +0), (-0, -0))
abbrev pub P12 : Row
P12 = record {
  order = 2;
  formula = plain_minus (float 3) (constantly nought);
  sight = part_bits (0x4008_0000_0000_0000 ∷ 0 ∷ 0x8000_0000_0000_0000 ∷ 0x8000_0000_0000_0000 ∷ []);
}

abbrev pub rows : List Row
rows = P9 ∷ P10 ∷ P11 ∷ P12 ∷ []

abbrev pub EveryRow : Type 0
EveryRow = All rows

-- the fraction of two whole numbers
abbrev pub fraction : ℕ → ℕ → Float
fraction a b = div binary64 (float a) (float b)

-- the square root at 4, with its derivatives to the fourth: 2, 1/4, -1/32, 3/256, -15/2048
abbrev pub root_at_four : Row
root_at_four = record {
  order = 4;
  formula = root_of (variably (float 4));
  sight = derivatives (float 2 ∷ fraction 1 4 ∷ neg (fraction 1 32) ∷ fraction 3 256 ∷ neg (fraction 15 2048) ∷ []);
}
