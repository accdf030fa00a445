-- Each statement of specs/ with its proof.
use Rattle.std.proofs.Common.{◌≡◌, false, negsuc, sym, refl, ◌∙◌}
use lib.Ieee.{fin, of_int, of_bits, add, sub, mul, div, neg, le, lt, to_unsigned}
use Rattle.imaging.specs.Spread.{SpreadRows, one, turn_variance, seen_variance}
use Rattle.imaging.specs.Text.{Rows, float, fraction}

-- by computation
pub rows : Rows
unfolding of_int of_bits add mul div neg le lt to_unsigned
rows = record {
  ticks = refl;
  leading_zeros = refl;
  nine_digits = refl;
  no_digit = refl;
  a_sign = refl;
  a_space = refl;
  rpm = refl;
  square_cells = refl;
  no_decimals = refl;
  billion = refl;
  half_up = refl;
  sixteenth = refl;
  negative = refl;
  one_decimal = refl;
  two_decimals = refl;
  up_to_a_tenth = refl;
  four_decimals = refl;
  whole = refl;
  up_to_ten = refl;
  hundreds = refl;
  nine_decimals = refl;
  too_small = refl;
  nought = refl;
}

-- Each side is worked out by itself, to a number and a power of 2.
two_turns : turn_variance (fraction 2 65536) (float 2) one ≡ fin false 1 (negsuc 15)
unfolding of_int of_bits add sub mul div neg lt
two_turns = refl

part_of_65536 : fraction 1 65536 ≡ fin false 1 (negsuc 15)
unfolding of_int div
part_of_65536 = refl

one_turn : turn_variance (float 0) (float 1) one ≡ float 0
unfolding of_int of_bits add sub mul div neg lt
one_turn = refl

nine_intervals : seen_variance (fraction 81 256) (float 9) (float 27) one ≡ fin false 1 (negsuc 10)
unfolding of_int of_bits add sub mul div neg
nine_intervals = refl

part_of_2048 : fraction 1 2048 ≡ fin false 1 (negsuc 10)
unfolding of_int div
part_of_2048 = refl

pub spread_rows : SpreadRows
spread_rows = record {
  of_two_turns = two_turns ∙ sym part_of_65536;
  of_one_turn = one_turn;
  of_nine_intervals = nine_intervals ∙ sym part_of_2048;
}
