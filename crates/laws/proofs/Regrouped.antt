-- The cases by computation. At any order constants show it in their value, as derivatives never reach one.
use Prim.Native.Nat.{ℕ}
use mathlib.Core.Path.{◌≡◌, refl, sym, ap, ◌∙◌}
use lib.Ieee.{Float, add, div, neg, of_int, to_bits}
use Rattle.forward.specs.Forward.{constant, value, sum}
use Rattle.forward.proofs.Values.{values}
use Rattle.laws.specs.Regrouped.{left_first, right_first, Cases, AtNoOrder}
use Rattle.laws.specs.Shown.{tenths}
use Rattle.laws.proofs.Apart.{changed}

pub cases : Cases
unfolding add div neg of_int to_bits
cases = record { floats = changed 0 _ _ _ _ refl refl tt; derivative_part = changed 1 _ _ _ _ refl refl tt }

-- the value of a sum of constants
module _ (n : ℕ) (a b c : Float) where
  value_left_first : value n (left_first n (constant n a) (constant n b) (constant n c)) ≡ left_first 0 a b c
  value_left_first = let of = values n in rw (of.of_sum (sum n (constant n a) (constant n b)) (constant n c), of.of_sum (constant n a) (constant n b), of.of_constant a, of.of_constant b, of.of_constant c)

  value_right_first : value n (right_first n (constant n a) (constant n b) (constant n c)) ≡ right_first 0 a b c
  value_right_first = let of = values n in rw (of.of_sum (constant n a) (sum n (constant n b) (constant n c)), of.of_sum (constant n b) (constant n c), of.of_constant a, of.of_constant b, of.of_constant c)

pub at_no_order : AtNoOrder
at_no_order n regroups =
    cases.floats.2 (sym (value_left_first n (tenths 1) (tenths 2) (tenths 3)) ∙ ap (value n) (regroups (constant n (tenths 1)) (constant n (tenths 2)) (constant n (tenths 3))) ∙ value_right_first n (tenths 1) (tenths 2) (tenths 3))
