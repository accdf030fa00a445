-- Digits that are read from the first to the last: the number so far and the digits that are left make the whole.
use Prim.Native.Nat.{ℕ, suc, ◌+◌, ◌*◌, ◌^◌, ◌≤◌, ◌<◌}
use native.Mathlib.Nat.{pow-zero, pow-succ', pow-le-pow_right, mul-le-mul_left, mul-le-mul_right}
use native.Mathlib.Omega.{arith}
use mathlib.Core.Path.{◌≡◌, refl}
use mathlib.Core.Bool.{Bool, true, false, ◌&&◌, cond, and-eq-true_iff}
use mathlib.Core.List.{List, [], ◌∷◌, ◌++◌}
use borrow.Author.Tests.{ltb-true, leb-true, ne_eqb}
use lib.Dec.{leb, ltb}
use lib.ListN.{length, get_or, drop, replicate, length-append, drop_of_length-le}
use Rattle.std.proofs.Common.{Option, Some, None}
use Rattle.text.specs.Inner.{digit_in}
use Rattle.text.specs.Parsed.{digit_value, read_on, read_hex_start, leading_zero, read_digits, read_decimal}

abbrev zeros : List ℕ
zeros = replicate 16 48

abbrev zeros_after : List ℕ → List ℕ
zeros_after text = drop (length text) zeros

-- the test on the number of decimal digits
abbrev pub within : ℕ → ℕ → Bool
within k most = leb 1 k && leb k most && leb k 19

pub few_enough : (k most : ℕ) → within k most ≡ true → (k ≤ most) × (k ≤ 19)
few_enough k most e =
    let (front, last) = (and-eq-true_iff (leb 1 k && leb k most) (leb k 19)).0 e in
    (leb-true k most ((and-eq-true_iff (leb 1 k) (leb k most)).0 front).1, leb-true k 19 last)

pub record Read (b : ℕ) (text : List ℕ) (n i : ℕ) : Type 0 where
  pub within : i ≤ length text
  pub small : n < b ^ i
  pub whole : read_on b n (drop i text) ≡ read_on b 0 text

-- one more digit makes a number of one more digit
grown : (b n d i : ℕ) → n < b ^ i → d < b → b * n + d < b ^ suc i
grown b n d i h k = rw (pow-succ' b i) (omega (arith, mul-le-mul_left b h))

pub all_read : {b n i : ℕ} {text : List ℕ} → Read b text n i → length text ≤ i → Some n ≡ read_on b 0 text
all_read {text = text} r h = rw (drop_of_length-le text h) at r.whole

-- a number comes of the branch that has one
pub if-passed : {x : Option ℕ} {n : ℕ} (t : Bool) → cond t x None ≡ Some n → (t ≡ true) × (x ≡ Some n)
if-passed true e = (refl, e)
if-passed false e = let z : ◌≡◌ {A = ℕ} 0 1 = cc in absurd (omega arith)

pub if-not : {x : Option ℕ} {n : ℕ} (t : Bool) → cond t None x ≡ Some n → (t ≡ false) × (x ≡ Some n)
if-not true e = let z : ◌≡◌ {A = ℕ} 0 1 = cc in absurd (omega arith)
if-not false e = (refl, e)

-- what is read next still fits
pub one_fits : {b n i d : ℕ} {text : List ℕ} → Read b text n i → i < length text → digit_in b (get_or text i 0) ≡ Some d → b ^ length text ≤ 2 ^ 64 → b * n + d < 2 ^ 64
one_fits {b} {n} {i} {d} {text} r h e most =
    let (test, same) = if-passed (ltb (digit_value (get_or text i 0)) b) e in
    let f : digit_value (get_or text i 0) ≡ d = cc in
    let below = rw f at (ltb-true (digit_value (get_or text i 0)) b test) in
    omega (arith, grown b n d i r.small below, pow-le-pow_right {n = b} (omega arith) {i = suc i} {j = length text} h)

-- ---- a pattern that is cut short

pub too_long : (text : List ℕ) → 16 < length text → None ≡ read_hex_start text
too_long text h = rw (ne_eqb (length (text ++ zeros_after text)) 16 (λ e. omega (arith, length-append text (zeros_after text))))

-- ---- a number of k digits is below b ^ k

pub read_small : (b m : ℕ) (text : List ℕ) (n : ℕ) → read_on b m text ≡ Some n → n < suc m * b ^ length text
read_small b m [] n e = let f : m ≡ n = cc in rw (pow-zero b) (omega arith)
read_small b m (byte ∷ text) n e =
    let (digit, rest) = if-passed (ltb (digit_value byte) b) e in
    let below : suc (b * m + digit_value byte) ≤ b * suc m = omega (arith, ltb-true (digit_value byte) b digit) in
    rw (pow-succ' b (length text)) (omega (arith, read_small b (b * m + digit_value byte) text n rest, mul-le-mul_right (b ^ length text) below))

pub digits_small : (most : ℕ) (text : List ℕ) (n : ℕ) → read_digits most text ≡ Some n → n < 10 ^ most
digits_small most text n e =
    let (few, read) = if-passed (within (length text) most) e in
    omega (arith, read_small 10 0 text n read, pow-le-pow_right {n = 10} (omega arith) {i = length text} {j = most} (few_enough (length text) most few).0)

pub decimal_small : (most : ℕ) (text : List ℕ) (n : ℕ) → read_decimal most text ≡ Some n → n < 10 ^ most
decimal_small most text n e = digits_small most text n (if-not (leading_zero text) e).1
