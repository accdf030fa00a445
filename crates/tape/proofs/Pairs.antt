-- Every pair, by computation.
use mathlib.Core.Path.{refl}
use lib.Ieee.{add, sub, mul, div, neg, lt, le, of_int, of_bits, to_bits}
use Rattle.tape.specs.Steps.{step}
use Rattle.tape.specs.Pairs.{Order}

pub order : Order
unfolding step add sub mul div neg lt le of_int of_bits to_bits
order = record {
  one_and_two = (refl, refl);
  one_and_three = (refl, refl);
  one_and_eleven = (refl, refl);
  one_and_four = (refl, refl);
  one_and_five = (refl, refl);
  one_and_six = (refl, refl);
  one_and_seven = (refl, refl);
  one_and_eight = (refl, refl);
  two_and_three = (refl, refl);
  two_and_eleven = (refl, refl);
  three_and_eleven = (refl, refl);
  eleven_and_three = (refl, refl);
  two_and_five = (refl, refl);
  two_and_six = (refl, refl);
  three_and_five = (refl, refl);
  eleven_and_five = (refl, refl);
  three_and_six = (refl, refl);
  eleven_and_six = (refl, refl);
  three_and_seven = (refl, refl);
  eleven_and_seven = (refl, refl);
  four_and_seven = (refl, refl);
  five_and_six = (refl, refl);
  one_and_twelve = (refl, refl);
  one_and_thirteen = (refl, refl);
  twelve_and_thirteen = (refl, refl);
  twelve_and_two = (refl, refl);
  twelve_and_three = (refl, refl);
  twelve_and_eleven = (refl, refl);
  twelve_and_four = (refl, refl);
  twelve_and_five = (refl, refl);
  twelve_and_six = (refl, refl);
  twelve_and_seven = (refl, refl);
  thirteen_and_seven = (refl, refl);
}
