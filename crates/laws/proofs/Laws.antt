-- From one order to the next: a law of the order below holds of each part. At order 0 they are the floats' laws.
use Prim.Native.Nat.{ℕ, zero, suc}
use mathlib.Core.Path.{◌≡◌, refl, ap, ◌∙◌}
use lib.Ieee.{binary64}
use Rattle.forward.specs.Forward.{Fwd, sum, product}
use Rattle.forward.proofs.Pair.{pair}
use Rattle.laws.specs.Laws.{Laws}
use Rattle.laws.proofs.Floats.{float_laws}

pub laws : (n : ℕ) → Laws n
laws zero = record {
  sum_exchanged = λ x y. float_laws.sum_exchanged binary64 x y;
  product_exchanged = λ x y. float_laws.product_exchanged binary64 x y;
  minus_is_plus_negated = λ x y. float_laws.minus_is_plus_negated binary64 x y;
  minus_plain_is_plus_negated = λ x k. float_laws.minus_is_plus_negated binary64 x k;
  negated_twice = λ x. float_laws.negated_twice x;
}
laws (suc n) =
    let below = laws n in
    record {
      sum_exchanged = λ x y. pair (below.sum_exchanged x.0 y.0) (below.sum_exchanged x.1 y.1);
      product_exchanged = λ x y. pair (below.product_exchanged x.0 y.0) (crossed n below x.0 x.1 y.0 y.1);
      minus_is_plus_negated = λ x y. pair (below.minus_is_plus_negated x.0 y.0) (below.minus_is_plus_negated x.1 y.1);
      minus_plain_is_plus_negated = λ x k. pair (below.minus_plain_is_plus_negated x.0 k) refl;
      negated_twice = λ x. pair (below.negated_twice x.0) (below.negated_twice x.1);
    }
  where
    -- a d + b c, and with the operands exchanged c b + d a
    crossed : (n : ℕ) → Laws n → (a b c d : Fwd n) → sum n (product n a d) (product n b c) ≡ sum n (product n c b) (product n d a)
    crossed n below a b c d = below.sum_exchanged (product n a d) (product n b c) ∙ ap (λ u. sum n u (product n a d)) (below.product_exchanged b c) ∙ ap (λ u. sum n (product n c b) u) (below.product_exchanged a d)
