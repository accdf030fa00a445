-- At every order an operation's innermost value is the float operation on the innermost values: derivatives never reach
-- it. proofs/Values.antt proves `Values n` for each n.
use Rattle.std.specs.Prelude.{ℕ, ◌≡◌, Float}
use Rattle.std.specs.Float.{binary64}
use Rattle.std.specs.Float.Ieee.{add, sub, mul, div, neg}
use Rattle.forward.specs.Forward.{Fwd, value, constant, variable, sum, difference, product, quotient, negation}
use Rattle.forward.specs.Forward.{sum_plain, difference_plain, plain_difference, product_plain, plain_quotient, sqrt}
use Rattle.root.specs.Value.{root}

pub record Values (n : ℕ) : Type 0 where
  pub of_constant : (c : Float) → value n (constant n c) ≡ c
  pub of_variable : (v : Float) → value n (variable n v) ≡ v
  pub of_sum : (x y : Fwd n) → value n (sum n x y) ≡ add binary64 (value n x) (value n y)
  pub of_difference : (x y : Fwd n) → value n (difference n x y) ≡ sub binary64 (value n x) (value n y)
  pub of_product : (x y : Fwd n) → value n (product n x y) ≡ mul binary64 (value n x) (value n y)
  pub of_quotient : (x y : Fwd n) → value n (quotient n x y) ≡ div binary64 (value n x) (value n y)
  pub of_negation : (x : Fwd n) → value n (negation n x) ≡ neg (value n x)
  pub of_sum_plain : (x : Fwd n) (k : Float) → value n (sum_plain n x k) ≡ add binary64 (value n x) k
  pub of_difference_plain : (x : Fwd n) (k : Float) → value n (difference_plain n x k) ≡ sub binary64 (value n x) k
  pub of_plain_difference : (k : Float) (y : Fwd n) → value n (plain_difference n k y) ≡ sub binary64 k (value n y)
  pub of_product_plain : (x : Fwd n) (k : Float) → value n (product_plain n x k) ≡ mul binary64 (value n x) k
  pub of_plain_quotient : (k : Float) (y : Fwd n) → value n (plain_quotient n k y) ≡ div binary64 k (value n y)
  pub of_sqrt : (x : Fwd n) → value n (sqrt n x) ≡ root (value n x)
