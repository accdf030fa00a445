-- Forward numbers of any order, as document 01 has them: each operation once, by recursion on the order, over IEEE 754
-- at binary64.
-- A number of order 0 is a float. One of order n + 1 is a value part and a derivative part, each of order n.
-- Any two NaNs are one value here (`lib.Ieee` has one `nan`), and every operation is total.
use Rattle.std.specs.Prelude.{ℕ, zero, suc, Bool, cond, Float, Option, Some, None}
use Rattle.std.specs.Float.{nan, binary64}
use Rattle.std.specs.Float.Ieee.{of_bits, add, sub, mul, div, rem, neg, lt, le, eq}
use Rattle.std.specs.declared.cmp.Ordering.{Ordering}
use Rattle.std.specs.declared.cmp.Ordering.TheVariants.{Less, Equal, Greater}
use Rattle.root.specs.Value.{root}

abbrev pub Fwd : ℕ → Type 0
Fwd zero = Float
Fwd (suc n) = Fwd n × Fwd n

-- +0.0, 1.0 and 2.0
abbrev pub nought : Float
nought = of_bits binary64 0

abbrev pub one : Float
one = of_bits binary64 0x3ff0_0000_0000_0000

abbrev pub two : Float
two = of_bits binary64 0x4000_0000_0000_0000

-- ---- making and reading

abbrev pub constant : (n : ℕ) → Float → Fwd n
constant zero c = c
constant (suc n) c = (constant n c, constant n nought)

abbrev pub variable : (n : ℕ) → Float → Fwd n
variable zero v = v
variable (suc n) v = (variable n v, constant n one)

-- the innermost value: value parts all the way
abbrev pub value : (n : ℕ) → Fwd n → Float
value zero x = x
value (suc n) (a, b) = value n a

-- the k-th derivative: k derivative parts, taken first, and value parts after them. Past the order there is none, and
-- `nan` stands there
abbrev pub derivative : (k n : ℕ) → Fwd n → Float
derivative zero n x = value n x
derivative (suc k) zero x = nan
derivative (suc k) (suc n) (a, b) = derivative k n b

-- ---- with (a, b) and (c, d)

abbrev pub sum : (n : ℕ) → Fwd n → Fwd n → Fwd n
sum zero x y = add binary64 x y
sum (suc n) (a, b) (c, d) = (sum n a c, sum n b d)

abbrev pub difference : (n : ℕ) → Fwd n → Fwd n → Fwd n
difference zero x y = sub binary64 x y
difference (suc n) (a, b) (c, d) = (difference n a c, difference n b d)

abbrev pub product : (n : ℕ) → Fwd n → Fwd n → Fwd n
product zero x y = mul binary64 x y
product (suc n) (a, b) (c, d) = (product n a c, sum n (product n a d) (product n b c))

abbrev pub quotient : (n : ℕ) → Fwd n → Fwd n → Fwd n
quotient zero x y = div binary64 x y
quotient (suc n) (a, b) (c, d) =
    let q = quotient n a c in
    (q, quotient n (difference n b (product n q d)) c)

abbrev pub negation : (n : ℕ) → Fwd n → Fwd n
negation zero x = neg x
negation (suc n) (a, b) = (negation n a, negation n b)

-- ---- with a plain number k

abbrev pub sum_plain : (n : ℕ) → Fwd n → Float → Fwd n
sum_plain zero x k = add binary64 x k
sum_plain (suc n) (a, b) k = (sum_plain n a k, b)

abbrev pub difference_plain : (n : ℕ) → Fwd n → Float → Fwd n
difference_plain zero x k = sub binary64 x k
difference_plain (suc n) (a, b) k = (difference_plain n a k, b)

-- k - (c, d) = (constant k - c, -d)
abbrev pub plain_difference : (n : ℕ) → Float → Fwd n → Fwd n
plain_difference zero k y = sub binary64 k y
plain_difference (suc n) k (c, d) = (difference n (constant n k) c, negation n d)

abbrev pub product_plain : (n : ℕ) → Fwd n → Float → Fwd n
product_plain zero x k = mul binary64 x k
product_plain (suc n) (a, b) k = (product_plain n a k, product_plain n b k)

-- 1.0 / k is formed once, and both parts are multiplied by it
abbrev pub quotient_plain : (n : ℕ) → Fwd n → Float → Fwd n
quotient_plain zero x k = div binary64 x k
quotient_plain (suc n) x k = product_plain (suc n) x (div binary64 one k)

-- k divided by a number is constant k over it
abbrev pub plain_quotient : (n : ℕ) → Float → Fwd n → Fwd n
plain_quotient n k y = quotient n (constant n k) y

-- ---- the square root

-- at order 0 the root itself (crates/root); above it s, the root of the value part, and the derivative part over s * 2.0
abbrev pub sqrt : (n : ℕ) → Fwd n → Fwd n
sqrt zero x = root x
sqrt (suc n) (a, b) =
    let s = sqrt n a in
    (s, quotient n b (product_plain n s two))

-- ---- by the innermost values only

-- the constant of the values' %, as Rust has it: exact, of the truncated quotient, with the dividend's sign
abbrev pub remainder : (n : ℕ) → Fwd n → Fwd n → Fwd n
remainder n x y = constant n (rem binary64 (value n x) (value n y))

abbrev pub remainder_plain : (n : ℕ) → Fwd n → Float → Fwd n
remainder_plain n x k = constant n (rem binary64 (value n x) k)

-- a comparison, of two numbers or with a plain one: what the comparison of floats says of the values
abbrev pub compared : {A : Type 0} → (Float → Float → A) → (n : ℕ) → Fwd n → Fwd n → A
compared says n x y = says (value n x) (value n y)

abbrev pub compared_plain : {A : Type 0} → (Float → Float → A) → (n : ℕ) → Fwd n → Float → A
compared_plain says n x k = says (value n x) k

-- the comparisons of floats are `lib.Ieee`'s eq, ne, lt and le, these two, and what Rust's partial_cmp answers; where a
-- NaN stands all but ne are false
abbrev pub gt : Float → Float → Bool
gt x y = lt y x

abbrev pub ge : Float → Float → Bool
ge x y = le y x

abbrev pub comparison : Float → Float → Option Ordering
comparison x y = cond (lt x y) (Some Less) (cond (eq x y) (Some Equal) (cond (gt x y) (Some Greater) None))

-- the number if its value >= 0.0, else its negation
abbrev pub abs : (n : ℕ) → Fwd n → Fwd n
abs n x = cond (compared_plain ge n x nought) x (negation n x)

-- the left if left >= right, else the right
abbrev pub max_val : (n : ℕ) → Fwd n → Fwd n → Fwd n
max_val n x y = cond (compared ge n x y) x y

-- the left if left <= right, else the right
abbrev pub min_val : (n : ℕ) → Fwd n → Fwd n → Fwd n
min_val n x y = cond (compared le n x y) x y
