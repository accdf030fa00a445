-- Each line by computation.
use mathlib.Core.Path.{refl}
use lib.Ieee.{add, sub, mul, div, neg, le, of_bits, of_int, to_bits}
use Rattle.laws.specs.Examples.{Safe, NotSafe}
use Rattle.laws.proofs.Apart.{changed}

pub safe : Safe
unfolding add sub mul div neg of_bits of_int to_bits
safe = record {
  sum_exchanged = (refl, refl);
  product_exchanged = (refl, refl);
  minus_is_plus_negated = (refl, refl);
  minus_plain_is_plus_negated = (refl, refl);
  negated_twice = (refl, refl);
}

pub not_safe : NotSafe
unfolding add sub mul div neg le of_bits of_int to_bits
not_safe = record {
  last_two_exchanged = changed 1 _ _ _ _ refl refl tt;
  differences_regrouped = changed 0 _ _ _ _ refl refl tt;
  products_regrouped = changed 0 _ _ _ _ refl refl tt;
  multiplied_out = changed 0 _ _ _ _ refl refl tt;
  quotient_regrouped = changed 0 _ _ _ _ refl refl tt;
  by_the_reciprocal = changed 1 _ _ _ _ refl refl tt;
  minus_out_of_a_difference = changed 0 _ _ _ _ refl refl tt;
  minus_out_of_a_sum = changed 0 _ _ _ _ refl refl tt;
  minus_out_of_a_product = changed 1 _ _ _ _ refl refl tt;
  minus_from_zero = changed 1 _ _ _ _ refl refl tt;
  plus_zero = changed 1 _ _ _ _ refl refl tt;
  times_one = changed 1 _ _ _ _ refl refl tt;
  plus_plain = changed 1 _ _ _ _ refl refl tt;
  times_plain = changed 1 _ _ _ _ refl refl tt;
  over_plain = changed 1 _ _ _ _ refl refl tt;
  plain_minus = changed 2 _ _ _ _ refl refl tt;
  less_itself = changed 1 _ _ _ _ refl refl tt;
  max_exchanged = changed 1 _ _ _ _ refl refl tt;
  min_exchanged = changed 1 _ _ _ _ refl refl tt;
}
