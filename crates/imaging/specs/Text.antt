-- Numbers as text: what is read as a number of ticks, and how a number is written with decimals.
use Rattle.std.specs.Prelude.{◌≡◌, ℕ, zero, suc, ◌+◌, ◌/◌, Bool, false, cond, Option, Some, None, List, ◌∷◌, ◌++◌, pos, from_bits, nat_le, Float}
use Rattle.std.specs.Float.{binary64}
use Rattle.std.specs.Float.Ieee.{add, mul, div, neg, le, lt, to_unsigned, of_int}
use Rattle.text.specs.Numerals.{bytes, digits, decimal}
use Rattle.text.specs.Parsed.{read_digits}

-- ---- read

-- 1 to 8 digits
abbrev pub number : List ℕ → Option ℕ
number text = read_digits 8 text

-- ---- written

-- n without its last k decimal digits
abbrev pub without : ℕ → ℕ → ℕ
without zero n = n
without (suc k) n = without k (n / 10)

-- n parts, of which 10 ^ places make one: the whole with no leading zero, and, if there are any, a point and so many
-- digits
abbrev pub with_decimals : ℕ → ℕ → List ℕ
with_decimals zero n = decimal n
with_decimals (suc k) n = decimal (without (suc k) n) ++ (46 ∷ digits 10 (suc k) n)

-- 10 ^ places in floats, from 1.0 times 10.0 and again
abbrev pub scale : ℕ → Float
scale zero = from_bits binary64 0x3ff0_0000_0000_0000
scale (suc k) = mul binary64 (scale k) (from_bits binary64 0x4024_0000_0000_0000)

-- how many parts, of which 10 ^ places make one, are nearest to x: a half more, and the fraction dropped
abbrev pub parts : Float → ℕ → Float
parts x places = add binary64 (mul binary64 x (scale places)) (from_bits binary64 0x3fe0_0000_0000_0000)

-- 0 ≤ x, and the parts below 2 ^ 64; that they are above -1, as the kit asks, is tested with it
abbrev pub rounded : Float → ℕ → Option ℕ
rounded x places =
    cond (le (from_bits binary64 0) x)
    (cond (lt (neg (from_bits binary64 0x3ff0_0000_0000_0000)) (parts x places))
    (cond (lt (parts x places) (from_bits binary64 0x43f0_0000_0000_0000)) (Some (to_unsigned 64 (parts x places))) None)
    None)
    None

-- ---- a standard error

-- two digits, or more
abbrev pub two_digits : Option ℕ → Bool
two_digits (Some n) = nat_le 10 n
two_digits None = false

-- of `left` numbers of decimals, from `places` on, the first with which x shows two digits; 3 if none does
abbrev pub first_with_two : Float → ℕ → ℕ → ℕ
first_with_two x zero places = 3
first_with_two x (suc left) places = cond (two_digits (rounded x places)) places (first_with_two x left (places + 1))

-- how many decimals an error is written with, and what it is the error of: from none on, to nine
abbrev pub error_places : Float → ℕ
error_places x = first_with_two x 10 0

-- ---- worked rows

abbrev pub float : ℕ → Float
float n = of_int binary64 (pos n)

abbrev pub fraction : ℕ → ℕ → Float
fraction m n = div binary64 (float m) (float n)

pub record Rows : Type 0 where
  pub ticks : number (bytes "160") ≡ Some 160
  pub leading_zeros : number (bytes "00000160") ≡ Some 160
  pub nine_digits : number (bytes "123456789") ≡ None
  pub no_digit : number (bytes "") ≡ None
  pub a_sign : number (bytes "-160") ≡ None
  pub a_space : number (bytes "160 ") ≡ None
  pub rpm : with_decimals 3 297600 ≡ bytes "297.600"
  pub square_cells : with_decimals 9 3253263 ≡ bytes "0.003253263"
  pub no_decimals : with_decimals 0 2010 ≡ bytes "2010"
  pub billion : scale 9 ≡ float 1000000000
  -- 0.0005 and 0.0625 in thousandths
  pub half_up : rounded (from_bits binary64 0x3f40_624d_d2f1_a9fc) 3 ≡ Some 1
  pub sixteenth : rounded (from_bits binary64 0x3fb0_0000_0000_0000) 3 ≡ Some 63
  pub negative : rounded (from_bits binary64 0xbfb0_0000_0000_0000) 3 ≡ None
  -- 1.2; 0.16; 0.0996, which is 0.10; 0.0012; 12; 9.96, which is 10; 345
  pub one_decimal : error_places (fraction 12 10) ≡ 1
  pub two_decimals : error_places (fraction 16 100) ≡ 2
  pub up_to_a_tenth : error_places (fraction 996 10000) ≡ 2
  pub four_decimals : error_places (fraction 12 10000) ≡ 4
  pub whole : error_places (float 12) ≡ 0
  pub up_to_ten : error_places (fraction 996 100) ≡ 0
  pub hundreds : error_places (float 345) ≡ 0
  -- 0.000000010, the smallest that nine decimals show; what is smaller; and 0
  pub nine_decimals : error_places (fraction 10 1000000000) ≡ 9
  pub too_small : error_places (fraction 9 1000000000) ≡ 3
  pub nought : error_places (float 0) ≡ 3
