-- The innermost value goes by value parts alone, so each line is the line of the order below.
use Prim.Native.Nat.{ℕ, zero, suc}
use mathlib.Core.Path.{refl, ◌∙◌, ap}
use lib.Ieee.{binary64, sub, div}
use Rattle.forward.specs.Forward.{value, constant}
use Rattle.forward.specs.Values.{Values}

pub values : (n : ℕ) → Values n
values zero = record {
  of_constant = λ c. refl;
  of_variable = λ v. refl;
  of_sum = λ x y. refl;
  of_difference = λ x y. refl;
  of_product = λ x y. refl;
  of_quotient = λ x y. refl;
  of_negation = λ x. refl;
  of_sum_plain = λ x k. refl;
  of_difference_plain = λ x k. refl;
  of_plain_difference = λ k y. refl;
  of_product_plain = λ x k. refl;
  of_plain_quotient = λ k y. refl;
  of_sqrt = λ x. refl;
}
values (suc n) =
    let below = values n in
    record {
      of_constant = below.of_constant;
      of_variable = below.of_variable;
      of_sum = λ x y. below.of_sum x.0 y.0;
      of_difference = λ x y. below.of_difference x.0 y.0;
      of_product = λ x y. below.of_product x.0 y.0;
      of_quotient = λ x y. below.of_quotient x.0 y.0;
      of_negation = λ x. below.of_negation x.0;
      of_sum_plain = λ x k. below.of_sum_plain x.0 k;
      of_difference_plain = λ x k. below.of_difference_plain x.0 k;
      of_plain_difference = λ k y. below.of_difference (constant n k) y.0 ∙ ap (λ v. sub binary64 v (value n y.0)) (below.of_constant k);
      of_product_plain = λ x k. below.of_product_plain x.0 k;
      of_plain_quotient = λ k y. below.of_quotient (constant n k) y.0 ∙ ap (λ v. div binary64 v (value n y.0)) (below.of_constant k);
      of_sqrt = λ x. below.of_sqrt x.0;
    }
