-- A number that is written is read back: digit by digit from the last, and the first digit of a decimal is no zero.
-- What is read is the text of that number alone: each value has one byte, and a decimal that does not begin with a zero
-- has as many digits as its number has places.
use Prim.Native.Nat.{ℕ, zero, suc, ◌+◌, ◌-◌, ◌*◌, ◌/◌, ◌%◌, ◌^◌, ◌≤◌, ◌<◌}
use native.Mathlib.Nat.{add-zero, lt_of_not-le, mod-lt, mod-eq_of_lt, pow-le-pow_right, pow-zero, pow-suc, pow-succ', div-one, div-eq_of_lt, div-add-mod, div-div-eq-div-mul, div-lt_iff_lt-mul, mul-add-div, mul-add-mod_self_left}
use native.Mathlib.Omega.{arith}
use mathlib.Core.Path.{◌≡◌, refl, sym, ap, ◌∙◌}
use mathlib.Core.Bool.{Bool, true, false, ◌&&◌, cond, and-eq-true_iff}
use mathlib.Core.List.{List, [], ◌∷◌, ◌++◌}
use borrow.Author.Tests.{ltb-true, ltb-false, leb-true, eqb-true, eqb-false, lt-ltb, le-ltb, le-leb, lt-leb, ne_eqb}
use lib.Dec.{leb, ltb, eqb}
use lib.ListN.{length, get_or, get_or-append}
use Rattle.std.proofs.Common.{Some}
use Rattle.text.specs.Numerals.{digit, digits, places, hex, decimal}
use Rattle.text.specs.Parsed.{digit_value, read_on, read_hex, leading_zero, read_decimal}
use Rattle.text.specs.Rows.{ReadBack}
use Rattle.text.proofs.Numerals.{length_digits, one_place}
use Rattle.text.proofs.Reading.{within, few_enough, if-passed, if-not, read_small, decimal_small}

read_then : (b m : ℕ) (front back : List ℕ) (k : ℕ) → read_on b m front ≡ Some k → read_on b m (front ++ back) ≡ read_on b k back
read_then b m [] back k e = let f : m ≡ k = cc in rw f
read_then b m (byte ∷ front) back k e = let (digit, rest) = if-passed (ltb (digit_value byte) b) e in rw digit (read_then b (b * m + digit_value byte) front back k rest)

digit_value_of : (d : ℕ) → d < 16 → digit_value (digit d) ≡ d
digit_value_of d h = by_test (ltb d 10) refl
  where
    by_test : (t : Bool) → ltb d 10 ≡ t → digit_value (cond t (48 + d) (87 + d)) ≡ d
    by_test true e = let k = ltb-true d 10 e in simp (le-leb 48 (48 + d) (omega arith), le-leb (48 + d) 57 (omega arith)) (omega arith)
    by_test false e = let k = ltb-false d 10 e in simp (le-leb 48 (87 + d) (omega arith), lt-leb (87 + d) 57 (omega arith), le-leb 97 (87 + d) (omega arith), le-leb (87 + d) 102 (omega arith)) (omega arith)

read_back : (b k n : ℕ) → 1 < b → b ≤ 16 → n < b ^ k → read_on b 0 (digits b k n) ≡ Some n
read_back b zero n h i j = let z : 0 ≡ n = omega (arith, pow-zero b) in ap Some z
read_back b (suc k) n h i j =
    let last = n % b in
    let below : last < b = mod-lt n (omega arith) in
    let rest : n / b < b ^ k = (div-lt_iff_lt-mul {k = b} {x = n} {y = b ^ k} (omega arith)).1 (omega (arith, pow-succ' b k)) in
    let front = read_then b 0 (digits b k (n / b)) (digit last ∷ []) (n / b) (read_back b k (n / b) h i rest) in
    let value = digit_value_of last (omega arith) in
    front ∙ rw (value, lt-ltb last b below, div-add-mod n b)

-- ---- decimals

-- n is below 10 to the number of its places
places_enough : (k n : ℕ) → n < 10 ^ suc k → n < 10 ^ places k n
places_enough zero n h = h
places_enough (suc k) n h = by_test (ltb n 10) refl (places_enough k (n / 10) (omega (arith, pow-succ' 10 (suc k))))
  where
    by_test : (t : Bool) → ltb n 10 ≡ t → n / 10 < 10 ^ places k (n / 10) → n < 10 ^ cond t 1 (suc (places k (n / 10)))
    by_test true e i = omega (arith, ltb-true n 10 e)
    by_test false e i = rw (pow-succ' 10 (places k (n / 10))) (omega arith)

places_some : (k n : ℕ) → 1 ≤ places k n
places_some zero n = omega arith
places_some (suc k) n = one_of (places k (n / 10)) (ltb n 10)
  where
    one_of : (m : ℕ) (t : Bool) → 1 ≤ cond t 1 (suc m)
    one_of m true = omega arith
    one_of m false = omega arith

-- a number of at most m and one more digits has no more places
places_most : (k m n : ℕ) → n < 10 ^ suc m → places k n ≤ suc m
places_most zero m n h = omega arith
places_most (suc k) zero n h = rw (lt-ltb n 10 (omega arith)) (omega arith)
places_most (suc k) (suc m) n h = one_of (ltb n 10) (places_most k m (n / 10) (omega (arith, pow-succ' 10 (suc m))))
  where
    one_of : {l o : ℕ} (t : Bool) → l ≤ o → cond t 1 (suc l) ≤ suc o
    one_of true h = omega arith
    one_of false h = omega arith

-- the first digit is the first of what is left without the last one
first_of : (k n : ℕ) → 1 ≤ k → get_or (digits 10 (suc k) n) 0 0 ≡ get_or (digits 10 k (n / 10)) 0 0
first_of k n h = get_or-append (digits 10 k (n / 10)) (digit (n % 10) ∷ []) 0 0 (omega (arith, length_digits 10 k (n / 10)))

no_zero : (n : ℕ) → 1 ≤ n → n < 10 → digit (n % 10) ≡ 48 → ⊥
no_zero n h i e = let f = rw (mod-eq_of_lt i, lt-ltb n 10 i) at e in omega arith

first_digit : (k n : ℕ) → 1 ≤ n → n < 10 ^ suc k → get_or (digits 10 (places k n) n) 0 0 ≡ 48 → ⊥
first_digit zero n h i = no_zero n h (omega arith)
first_digit (suc k) n h i = by_test (ltb n 10) refl (λ l. first_digit k (n / 10) l (omega (arith, pow-succ' 10 (suc k))))
  where
    by_test : (t : Bool) → ltb n 10 ≡ t → (1 ≤ n / 10 → get_or (digits 10 (places k (n / 10)) (n / 10)) 0 0 ≡ 48 → ⊥) → get_or (digits 10 (cond t 1 (suc (places k (n / 10)))) n) 0 0 ≡ 48 → ⊥
    by_test true t f e = no_zero n h (ltb-true n 10 t) e
    by_test false t f e = f (omega (arith, ltb-false n 10 t)) (sym (first_of (places k (n / 10)) n (places_some k (n / 10))) ∙ e)

not_led : (k n : ℕ) → n < 10 ^ suc k → leading_zero (digits 10 (places k n) n) ≡ false
not_led k n h = by_test (ltb n 10) refl
  where
    and_false : (t : Bool) → t && false ≡ false
    and_false true = refl
    and_false false = refl

    by_test : (t : Bool) → ltb n 10 ≡ t → leading_zero (digits 10 (places k n) n) ≡ false
    by_test true t = rw (length_digits 10 (places k n) n, one_place k n (ltb-true n 10 t))
    by_test false t = rw (ne_eqb (get_or (digits 10 (places k n) n) 0 0) 48 (first_digit k n (omega (arith, ltb-false n 10 t)) h)) (and_false (ltb 1 (length (digits 10 (places k n) n))))

so_many_back : (p n most : ℕ) → leading_zero (digits 10 p n) ≡ false → 1 ≤ p → p ≤ most → p ≤ 19 → n < 10 ^ p → read_decimal most (digits 10 p n) ≡ Some n
so_many_back p n most e f g h i = rw (e, length_digits 10 p n, le-leb 1 p f, le-leb p most g, le-leb p 19 h) (read_back 10 p n (omega arith) (omega arith) i)

decimal_back : (k n most : ℕ) → 1 ≤ most → most ≤ 19 → n < 10 ^ most → n < 10 ^ suc k → read_decimal most (digits 10 (places k n) n) ≡ Some n
decimal_back k n zero f g h i = absurd (omega arith)
decimal_back k n (suc m) f g h i =
    let few = places_most k m n h in
    so_many_back (places k n) n (suc m) (not_led k n i) (places_some k n) few (omega arith) (places_enough k n i)

-- ---- and what is read is the text of that number alone

-- both halves of a test of range
between : (low byte high : ℕ) → leb low byte && leb byte high ≡ true → (low ≤ byte) × (byte ≤ high)
between low byte high e =
    let (from, to) = (and-eq-true_iff (leb low byte) (leb byte high)).0 e in
    (leb-true low byte from, leb-true byte high to)

-- no other byte has the value of a digit
byte_of : (byte : ℕ) → digit_value byte < 16 → digit (digit_value byte) ≡ byte
byte_of byte h = by_tests (leb 48 byte && leb byte 57) (leb 97 byte && leb byte 102) refl refl h
  where
    by_tests : (t u : Bool) → leb 48 byte && leb byte 57 ≡ t → leb 97 byte && leb byte 102 ≡ u
        → cond t (byte - 48) (cond u (byte - 87) 16) < 16
        → digit (cond t (byte - 48) (cond u (byte - 87) 16)) ≡ byte
    by_tests true u e f h =
        let (from, to) = between 48 byte 57 e in
        rw (lt-ltb (byte - 48) 10 (omega arith)) (omega arith)
    by_tests false true e f h =
        let (from, to) = between 97 byte 102 f in
        rw (le-ltb (byte - 87) 10 (omega arith)) (omega arith)
    by_tests false false e f h = absurd (omega arith)

-- the first digit is the last of what the others leave of the number
first_then : (b k n : ℕ) → digits b (suc k) n ≡ digit (n / b ^ k % b) ∷ digits b k n
first_then b zero n = rw (pow-zero b, div-one n)
first_then b (suc k) n =
    ap (λ front. front ++ (digit (n % b) ∷ [])) (first_then b k (n / b))
    ∙ rw (div-div-eq-div-mul n b (b ^ k), pow-succ' b k)

-- a last digit is taken off as it was put on
last_off : (b m d : ℕ) → d < b → ((b * m + d) / b ≡ m) × ((b * m + d) % b ≡ d)
last_off b m d h =
    let front = mul-add-div {m = b} (omega arith) m d in
    (front ∙ rw (div-eq_of_lt h, add-zero m), mul-add-mod_self_left b m d ∙ mod-eq_of_lt h)

-- the number so far is what the text after it leaves of the whole, and that text is the whole's last digits
text_of : (b m : ℕ) (text : List ℕ) (n : ℕ) → b ≤ 16 → read_on b m text ≡ Some n
    → (n / b ^ length text ≡ m) × (digits b (length text) n ≡ text)
text_of b m [] n h e = let f : m ≡ n = cc in (rw (pow-zero b, div-one n) (sym f), refl)
text_of b m (byte ∷ text) n h e =
    let (test, read) = if-passed (ltb (digit_value byte) b) e in
    let k = length text in
    let d = digit_value byte in
    let below = ltb-true d b test in
    let (front, back) = text_of b (b * m + d) text n h read in
    let (less, last) = last_off b m d below in
    let first : digit (n / b ^ k % b) ≡ byte = rw (front, last) (byte_of byte (omega arith)) in
    (rw (pow-suc b k, ← div-div-eq-div-mul n (b ^ k) b, front) less, first_then b k n ∙ rw (first, back))

-- 16 digits are read, and 16 are written
hex_text : (text : List ℕ) (n : ℕ) → read_hex text ≡ Some n → (n < 2 ^ 64) × (text ≡ hex n)
hex_text text n e =
    let (all, read) = if-passed (eqb (length text) 16) e in
    let long = eqb-true (length text) 16 all in
    let small = rw long at (read_small 16 0 text n read) in
    (omega arith, sym (rw long at (text_of 16 0 text n (omega arith) read).1))

ten_to : (i j : ℕ) → i ≤ j → 10 ^ i ≤ 10 ^ j
ten_to i j = pow-le-pow_right {n = 10} (omega arith) {i = i} {j = j}

-- a number that is not below 10 ^ p has more than p places
places_are : (k p n : ℕ) → 10 ^ p ≤ n → n < 10 ^ suc p → n < 10 ^ suc k → places k n ≡ suc p
places_are k p n h i j =
    let below = places_enough k n j in
    let enough : p < places k n = lt_of_not-le (λ l. omega (arith, ten_to (places k n) p l)) in
    omega (arith, places_most k p n i)

-- so many digits as the power of ten that n reaches, and one more
pub one_over_power : (p n : ℕ) → n < 2 ^ 64 → 10 ^ p ≤ n → n < 10 * 10 ^ p → p + 1 ≡ length (decimal n)
one_over_power p n h i j = omega (arith, length_digits 10 (places 19 n) n, places_are 19 p n i (rw (pow-succ' 10 p) j) (omega arith))

-- a first digit that is no zero counts the power of its place
not_less : (byte : ℕ) (text : List ℕ) (n : ℕ) → (byte ≡ 48 → ⊥) → read_on 10 0 (byte ∷ text) ≡ Some n
    → 10 ^ length text ≤ n
not_less byte text n h e = let more : 10 ^ length text < suc n = lt_of_not-le (λ l. h (zero_byte l)) in omega arith
  where
    zero_byte : n < 10 ^ length text → byte ≡ 48
    zero_byte l =
        let (test, read) = if-passed (ltb (digit_value byte) 10) e in
        let front = (text_of 10 (10 * 0 + digit_value byte) text n (omega arith) read).0 in
        let none : digit_value byte ≡ 0 = omega (arith, div-eq_of_lt l) in
        sym (byte_of byte (omega arith)) ∙ ap digit none

-- one digit, or a first one that is no zero, is as many digits as places
as_many : (most : ℕ) (text : List ℕ) (n : ℕ) → leading_zero text ≡ false → within (length text) most ≡ true
    → read_on 10 0 text ≡ Some n → places 19 n ≡ length text
as_many most [] n e f g = cc
as_many most (byte ∷ []) n e f g = one_place 19 n (omega (arith, read_small 10 0 (byte ∷ []) n g))
as_many most (byte ∷ next ∷ text) n e f g =
    let rest = next ∷ text in
    let k = length rest in
    let first = eqb-false byte 48 (rw (lt-ltb 1 (suc k) (omega arith)) at e) in
    let small = read_small 10 0 (byte ∷ rest) n g in
    let bound = ten_to (suc k) 19 (few_enough (suc k) most f).1 in
    places_are 19 k n (not_less byte rest n first g) (omega arith) (omega arith)

-- the last digits of a number, as many as it has places, are its decimal
decimal_text : (most : ℕ) (text : List ℕ) (n : ℕ) → read_decimal most text ≡ Some n → text ≡ decimal n
decimal_text most text n e =
    let (unled, some) = if-not (leading_zero text) e in
    let (few, read) = if-passed (within (length text) most) some in
    sym (text_of 10 0 text n (omega arith) read).1 ∙ ap (λ p. digits 10 p n) (sym (as_many most text n unled few read))

pub every_number : ReadBack
every_number = record {
  hex_back = λ n h. read_back 16 16 n (omega arith) (omega arith) h;
  decimal_back = λ n most f g h. decimal_back 19 n most f g h (omega (arith, ten_to most 19 g));
  hex_alone = hex_text;
  decimal_alone = λ most text n e. (decimal_small most text n e, decimal_text most text n e);
}
