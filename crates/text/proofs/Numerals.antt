-- How many digits a number is written with.
use Prim.Native.Nat.{ℕ, zero, suc, ◌+◌, ◌/◌, ◌≤◌, ◌<◌}
use native.Mathlib.Omega.{arith}
use mathlib.Core.Path.{◌≡◌, refl}
use mathlib.Core.Bool.{Bool, true, false, cond}
use mathlib.Core.List.{List}
use borrow.Author.Tests.{lt-ltb}
use lib.Dec.{leb, ltb}
use lib.ListN.{length, length-append}
use Rattle.text.specs.Numerals.{digits, places, hex, decimal}
use Rattle.text.specs.Written.{written}
use Rattle.text.specs.Inner.{Wrote}
use Rattle.text.proofs.Stores.{has_room, no_room}

pub length_digits : (b k n : ℕ) → length (digits b k n) ≡ k
length_digits b zero n = refl
length_digits b (suc k) n = simp (length-append, length_digits b k (n / b)) (omega arith)

pub length_hex : (n : ℕ) → length (hex n) ≡ 16
length_hex n = length_digits 16 16 n

-- room for k bytes is room for k digits
pub digits_written : {before after : List ℕ} {at end : ℕ} (b k n : ℕ) → leb (at + k) (length before) ≡ true → Wrote before at (digits b k n) after end → (end, after) ≡ written before at (digits b k n)
digits_written b k n e w = has_room (digits b k n) (rw (length_digits b k n) e) w

pub digits_not_written : {before : List ℕ} {at : ℕ} (b k n : ℕ) → leb (at + k) (length before) ≡ false → (at, before) ≡ written before at (digits b k n)
digits_not_written b k n e = no_room (digits b k n) (rw (length_digits b k n) e)

-- ---- decimal places

pub one_place : (k n : ℕ) → n < 10 → places k n ≡ 1
one_place zero n h = refl
one_place (suc k) n h = rw (lt-ltb n 10 h)

places_few : (k n : ℕ) → places k n ≤ 1 + k
places_few zero n = omega arith
places_few (suc k) n = one_of k (ltb n 10) (places_few k (n / 10))
  where
    one_of : {m : ℕ} (l : ℕ) (b : Bool) → m ≤ 1 + l → cond b 1 (suc m) ≤ 1 + suc l
    one_of l true h = omega arith
    one_of l false h = omega arith

pub decimal_short : (n : ℕ) → length (decimal n) ≤ 20
decimal_short n = omega (arith, length_digits 10 (places 19 n) n, places_few 19 n)
