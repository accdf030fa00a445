-- What may be reordered in a formula of forward numbers: at every order, for every number, both sides have the same
-- bits in every part.
-- The parts are any floats: NaN, infinities, zeros of either sign, subnormals and all others, so every value that a
-- binary64 can hold. NaNs are equal, as `lib.Ieee` has one.
-- proofs/Laws.antt proves `Laws n` for each n, by one argument from n to n + 1 and the floats' laws at 0.
use Rattle.std.specs.Prelude.{ℕ, ◌≡◌, Float}
use Rattle.std.specs.Float.Ieee.{neg}
use Rattle.forward.specs.Forward.{Fwd, sum, difference, product, negation, sum_plain, difference_plain}

pub record Laws (n : ℕ) : Type 0 where
  -- x + y = y + x
  pub sum_exchanged : (x y : Fwd n) → sum n x y ≡ sum n y x
  -- x * y = y * x
  pub product_exchanged : (x y : Fwd n) → product n x y ≡ product n y x
  -- x - y = x + (-y), of two numbers and with a plain one
  pub minus_is_plus_negated : (x y : Fwd n) → difference n x y ≡ sum n x (negation n y)
  pub minus_plain_is_plus_negated : (x : Fwd n) (k : Float) → difference_plain n x k ≡ sum_plain n x (neg k)
  -- -(-x) = x
  pub negated_twice : (x : Fwd n) → negation n (negation n x) ≡ x

abbrev pub AtEveryOrder : Type 0
AtEveryOrder = (n : ℕ) → Laws n
