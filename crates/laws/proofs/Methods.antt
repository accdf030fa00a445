-- Each operator answers what its rule gives, so the laws of the rules are laws of the operators: once over the order n
-- and a one-to-one map to the numbers of that order.
use Prim.Native.Nat.{ℕ, suc}
use mathlib.Core.Path.{◌≡◌, sym, ap, ◌∙◌}
use lib.Ieee.{Float}
use Rattle.forward.specs.Forward.{Fwd, sum, difference, product, negation, sum_plain, difference_plain}
use Rattle.forward.specs.Number.{OneToOne, of_parts}
use Rattle.forward.specs.OneToOne.{of_parts_one_to_one}
use Rattle.laws.specs.Methods.{Methods, Lawful, methods, OfTheCode}
use Rattle.laws.proofs.Laws.{laws}

-- the methods answer what the rules of order n give
record Follows (M : Methods) (n : ℕ) (number : M.Number → Fwd n) : Type 0 where
  add : (x y z : M.Number) → M.add x y z → number z ≡ sum n (number x) (number y)
  sub : (x y z : M.Number) → M.sub x y z → number z ≡ difference n (number x) (number y)
  mul : (x y z : M.Number) → M.mul x y z → number z ≡ product n (number x) (number y)
  neg : (x z : M.Number) → M.neg x z → number z ≡ negation n (number x)
  add_f64 : (x : M.Number) (k : Float) (z : M.Number) → M.add_f64 x k z → number z ≡ sum_plain n (number x) k
  sub_f64 : (x : M.Number) (k : Float) (z : M.Number) → M.sub_f64 x k z → number z ≡ difference_plain n (number x) k

lawful : (M : Methods) (n : ℕ) (number : M.Number → Fwd n) → OneToOne number → Follows M n number → Lawful M
lawful M n number one_to_one follows =
    let law = laws n in
    record {
      add_exchanged = λ x y z w p q. one_to_one z w (follows.add x y z p ∙ law.sum_exchanged (number x) (number y) ∙ sym (follows.add y x w q));
      mul_exchanged = λ x y z w p q. one_to_one z w (follows.mul x y z p ∙ law.product_exchanged (number x) (number y) ∙ sym (follows.mul y x w q));
      sub_is_add_neg = λ x y v z w p r q. one_to_one z w (follows.sub x y z p ∙ law.minus_is_plus_negated (number x) (number y) ∙ ap (sum n (number x)) (sym (follows.neg y v r)) ∙ sym (follows.add x v w q));
      sub_f64_is_add_f64 = λ x k z w p q. one_to_one z w (follows.sub_f64 x k z p ∙ law.minus_plain_is_plus_negated (number x) k ∙ sym (follows.add_f64 x _ w q));
      neg_neg = λ x v z p q. one_to_one z x (follows.neg v z q ∙ ap (negation n) (follows.neg x v p) ∙ law.negated_twice (number x));
    }

pub of_the_code : OfTheCode
of_the_code t life =
    lawful (methods t life) (suc t.number.order) (of_parts t.number.number) (of_parts_one_to_one t.one_to_one)
    (record { add = λ x y z p. p.1; sub = λ x y z p. p.1; mul = λ x y z p. p.1; neg = λ x z p. p.1; add_f64 = λ x k z p. p.1; sub_f64 = λ x k z p. p.1 })
