-- By the three tests that `comparison` makes, of which the later ones fail where an earlier one holds.
use Prim.Native.Nat.{ℕ, suc}
use mathlib.Core.Path.{◌≡◌, refl, ap, ◌∙◌}
use mathlib.Core.Bool.{Bool, true, false, cond, not, ◌||◌}
use lib.Dec.{T}
use lib.Ieee.{Float, eq, ne, lt, le}
use Rattle.std.proofs.Common.{Option, Some, None, Ordering, Less, Equal, Greater}
use Rattle.std.specs.Ordering.{is_some_and, is_lt, is_le, is_gt, is_ge}
use Rattle.std.proofs.lemmas.Float.{lt_trans, lt_irrefl, eq_flip, eq-not_lt}
use Rattle.forward.specs.Forward.{Fwd, value, comparison}
use Rattle.forward.specs.Number.{of_parts}
use Rattle.forward.specs.Tests.{Operators, OperatorsOf}

-- the answer by the three tests
abbrev answer : Bool → Bool → Bool → Option Ordering
answer p q r = cond p (Some Less) (cond q (Some Equal) (cond r (Some Greater) None))

below_by : (p q r : Bool) → is_some_and is_lt (answer p q r) ≡ p
below_by true q r = refl
below_by false true r = refl
below_by false false true = refl
below_by false false false = refl

below_or_equal_by : (p q r : Bool) → is_some_and is_le (answer p q r) ≡ (p || q)
below_or_equal_by true q r = refl
below_or_equal_by false true r = refl
below_or_equal_by false false true = refl
below_or_equal_by false false false = refl

above_by : (p q r : Bool) → (T p → ¬ (T r)) → (T q → ¬ (T r)) → is_some_and is_gt (answer p q r) ≡ r
above_by true q true f g = elim (f tt tt) [ ]
above_by true q false f g = refl
above_by false true true f g = elim (g tt tt) [ ]
above_by false true false f g = refl
above_by false false true f g = refl
above_by false false false f g = refl

above_or_equal_by : (p q r : Bool) → (T p → ¬ (T r)) → (T q → ¬ (T p)) → is_some_and is_ge (answer p q r) ≡ (r || q)
above_or_equal_by true q true f g = elim (f tt tt) [ ]
above_or_equal_by true true false f g = elim (g tt tt) [ ]
above_or_equal_by true false false f g = refl
above_or_equal_by false true true f g = refl
above_or_equal_by false true false f g = refl
above_or_equal_by false false true f g = refl
above_or_equal_by false false false f g = refl

same : (p q : Bool) → (T p → T q) → (T q → T p) → p ≡ q
same true true f g = refl
same true false f g = elim (f tt) [ ]
same false true f g = elim (g tt) [ ]
same false false f g = refl

module _ (a b : Float) where
  never_both : T (lt a b) → ¬ (T (lt b a))
  never_both h k = lt_irrefl a (lt_trans a b a h k)

  not_above : T (eq a b) → ¬ (T (lt b a))
  not_above h = eq-not_lt b a (eq_flip a b h)

  either_way : eq a b ≡ eq b a
  either_way = same (eq a b) (eq b a) (eq_flip a b) (eq_flip b a)

  not_equal : not (eq a b) ≡ ne a b
  unfolding ne
  not_equal = refl

  below_or_equal : is_some_and is_le (comparison a b) ≡ le a b
  unfolding le
  below_or_equal = below_or_equal_by (lt a b) (eq a b) (lt b a)

  above_or_equal : is_some_and is_ge (comparison a b) ≡ le b a
  unfolding le
  above_or_equal = above_or_equal_by (lt a b) (eq a b) (lt b a) never_both (eq-not_lt a b) ∙ ap (λ q. lt b a || q) either_way

pub operators : (n : ℕ) → Operators n
operators n = record {
  not_equal = λ x y. not_equal (value n x) (value n y);
  below = λ x y. below_by (lt (value n x) (value n y)) (eq (value n x) (value n y)) (lt (value n y) (value n x));
  below_or_equal = λ x y. below_or_equal (value n x) (value n y);
  above = λ x y. above_by (lt (value n x) (value n y)) (eq (value n x) (value n y)) (lt (value n y) (value n x)) (never_both (value n x) (value n y)) (not_above (value n x) (value n y));
  above_or_equal = λ x y. above_or_equal (value n x) (value n y);
}

pub operators_of : (n : ℕ) {T : Type 0} (number : T → Fwd n) → OperatorsOf n number
operators_of n number = record {
  not_equal = λ x y. (operators (suc n)).not_equal (of_parts number x) (of_parts number y);
  below = λ x y. (operators (suc n)).below (of_parts number x) (of_parts number y);
  below_or_equal = λ x y. (operators (suc n)).below_or_equal (of_parts number x) (of_parts number y);
  above = λ x y. (operators (suc n)).above (of_parts number x) (of_parts number y);
  above_or_equal = λ x y. (operators (suc n)).above_or_equal (of_parts number x) (of_parts number y);
}
