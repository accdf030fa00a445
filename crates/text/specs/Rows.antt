-- What the rules come to: worked rows, proved in proofs/Rows.antt by computation; and that a number which is written is
-- read back, and that what is read is the text of that number alone, proved in proofs/ReadBack.antt.
use Rattle.std.specs.Prelude.{ℕ, ◌^◌, ◌≤◌, ◌<◌, ◌≡◌, Some, None, List, [], ◌∷◌}
use Rattle.text.specs.Numerals.{bytes, digits, hex, decimal}
use Rattle.text.specs.Written.{written}
use Rattle.text.specs.Parsed.{read_hex, read_hex_start, read_digits, read_decimal}

pub record ReadBack : Type 0 where
  -- a number of 64 bits that is written in hex is read back
  pub hex_back : (n : ℕ) → n < 2 ^ 64 → read_hex (hex n) ≡ Some n
  -- so is a number of at most 19 digits that is written in decimal
  pub decimal_back : (n most : ℕ) → 1 ≤ most → most ≤ 19 → n < 10 ^ most → read_decimal most (decimal n) ≡ Some n
  -- what is read as hex is the text of that number, and of no other
  pub hex_alone : (text : List ℕ) (n : ℕ) → read_hex text ≡ Some n → (n < 2 ^ 64) × (text ≡ hex n)
  -- what is read as a decimal is the text of that number, and of no other
  pub decimal_alone : (most : ℕ) (text : List ℕ) (n : ℕ) → read_decimal most text ≡ Some n
      → (n < 10 ^ most) × (text ≡ decimal n)

-- three bytes that are lent
abbrev pub ones : List ℕ
ones = 1 ∷ 1 ∷ 1 ∷ []

pub record EveryRow : Type 0 where
  pub bits_of_one : hex 0x3ff0_0000_0000_0000 ≡ bytes "3ff0000000000000"
  pub lower_case : hex 0xabcd_ef01 ≡ bytes "00000000abcdef01"
  pub all_digits : hex 0x0123_4567_89ab_cdef ≡ bytes "0123456789abcdef"
  pub nought : decimal 0 ≡ bytes "0"
  pub hundred : decimal 100 ≡ bytes "100"
  pub most : decimal 0xffff_ffff_ffff_ffff ≡ bytes "18446744073709551615"
  pub last_digits : digits 10 3 12045 ≡ bytes "045"
  -- to the last byte; a byte too long; nothing behind the end; a place whose sum with a length passes 64 bits
  pub fits : written ones 1 (bytes "10") ≡ (3, 1 ∷ bytes "10")
  pub too_long : written ones 2 (bytes "10") ≡ (2, ones)
  pub nothing : written ones 3 [] ≡ (3, ones)
  pub far_off : written ones 0xffff_ffff_ffff_ffff (bytes "10") ≡ (0xffff_ffff_ffff_ffff, ones)
  pub upper_case : read_hex (bytes "3FF0000000000000") ≡ None
  pub fifteen_digits : read_hex (bytes "3ff000000000000") ≡ None
  pub seventeen_digits : read_hex (bytes "3ff00000000000000") ≡ None
  pub three_digits : read_hex_start (bytes "3ff") ≡ Some 0x3ff0_0000_0000_0000
  pub one_too_many : read_hex_start (bytes "3ff00000000000000") ≡ None
  pub leading_zeros : read_digits 8 (bytes "00000160") ≡ Some 160
  pub six_digits : read_digits 5 (bytes "000160") ≡ None
  pub no_digit : read_digits 5 [] ≡ None
  pub a_sign : read_digits 5 (bytes "-160") ≡ None
  pub a_letter : read_digits 5 (bytes "16a") ≡ None
  pub twenty_digits : read_digits 20 (bytes "00000000000000000160") ≡ None
  pub zero_alone : read_decimal 5 (bytes "0") ≡ Some 0
  pub zero_first : read_decimal 5 (bytes "05") ≡ None
  pub two_zeros : read_decimal 5 (bytes "00") ≡ None
  pub largest : read_decimal 5 (bytes "99999") ≡ Some 99999
