-- The table's rows are the floats' operations, and their laws are the floats'.
use mathlib.Core.Path.{◌≡◌, refl, ap}
use mathlib.Core.Bool.{Bool, true, false, cond}
use mathlib.Core.Option.{some}
use lib.Ieee.{Float, binary64, add, sub, neg, le, of_bits, to_bits}
use Rattle.forward.specs.Forward.{nought, one, constant, variable, derivative}
use Rattle.laws.specs.OnATape.{OnATape}
use Rattle.laws.proofs.Apart.{changed}
use Rattle.laws.proofs.Floats.{float_laws}
use Rattle.laws.proofs.Halved.{halved}

-- the test decides the derivative as it decides the number
decides : (b : Bool) (l r : Float) → some (cond b one nought) ≡ some (derivative 1 1 (cond b (variable 1 l) (constant 1 r)))
decides true l r = refl
decides false l r = refl

pub on_a_tape : OnATape
unfolding add sub neg of_bits to_bits
on_a_tape = record {
  sum_exchanged = float_laws.sum_exchanged binary64;
  product_exchanged = float_laws.product_exchanged binary64;
  minus_plain_is_plus_negated = float_laws.minus_is_plus_negated binary64;
  minus_is_not_plus_negated = changed 0 _ _ _ _ refl refl tt;
  not_negated_twice = changed 0 _ _ _ _ refl refl tt;
  max_pulls_left = λ l r. decides (le r l) l r;
  min_pulls_left = λ l r. decides (le l r) l r;
  root_pulls = λ x d. ap some (halved x d);
}
