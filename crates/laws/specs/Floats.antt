-- Laws of the floats, for any format of `lib.Ieee`. proofs/Floats.antt proves them, and assumes nothing.
-- They hold of every `Float`: nan, the infinities, the zeros of either sign, and every other number, large or small. So
-- they hold of every value that a binary64 can hold, and it need not be said which ones those are.
-- There is one `nan`: two NaNs are equal here.
use Rattle.std.specs.Prelude.{◌≡◌, Float}
use Rattle.std.specs.Float.{Format}
use Rattle.std.specs.Float.Ieee.{add, sub, mul, neg}

pub record FloatLaws : Type 0 where
  pub sum_exchanged : (f : Format) (x y : Float) → add f x y ≡ add f y x
  pub product_exchanged : (f : Format) (x y : Float) → mul f x y ≡ mul f y x
  pub minus_is_plus_negated : (f : Format) (x y : Float) → sub f x y ≡ add f x (neg y)
  pub negated_twice : (x : Float) → neg (neg x) ≡ x
