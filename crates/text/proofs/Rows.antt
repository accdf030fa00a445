-- Every row holds: both sides are computed.
use mathlib.Core.Path.{refl}
use Rattle.text.specs.Rows.{EveryRow}

pub every_row : EveryRow
every_row = record {
  bits_of_one = refl;
  lower_case = refl;
  all_digits = refl;
  nought = refl;
  hundred = refl;
  most = refl;
  last_digits = refl;
  fits = refl;
  too_long = refl;
  nothing = refl;
  far_off = refl;
  upper_case = refl;
  fifteen_digits = refl;
  seventeen_digits = refl;
  three_digits = refl;
  one_too_many = refl;
  leading_zeros = refl;
  six_digits = refl;
  no_digit = refl;
  a_sign = refl;
  a_letter = refl;
  twenty_digits = refl;
  zero_alone = refl;
  zero_first = refl;
  two_zeros = refl;
  largest = refl;
}
