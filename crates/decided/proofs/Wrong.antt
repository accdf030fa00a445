-- No wrong answer is the rule's: both are computed.
use mathlib.Core.Path.{refl}
use lib.Ieee.{add, sub, mul, div, rem, neg, eq, ne, lt, le, round, of_int, of_bits, to_bits}
use Rattle.root.specs.Value.{root}
use Rattle.decided.specs.WrongNumbers.{NumbersTried}
use Rattle.decided.specs.WrongCalls.{CallsTried}
use Rattle.tape.specs.Steps.{step}

pub numbers_tried : NumbersTried
unfolding root round add sub mul div rem neg eq ne lt le of_int of_bits to_bits
numbers_tried = refl

pub calls_tried : CallsTried
unfolding step root round add sub mul div neg lt le of_int of_bits to_bits
calls_tried = refl
