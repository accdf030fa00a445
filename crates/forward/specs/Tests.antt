-- What std's `!=`, `<`, `<=`, `>` and `>=` answer by the `eq` and `partial_cmp` of src/comparing.rt: what the comparison
-- of floats of that name says of the values. proofs/Tests.antt proves `Operators n` for each n, and `OperatorsOf n number` for
-- each type of numbers.
use Rattle.std.specs.Prelude.{ℕ, suc, ◌≡◌, not}
use Rattle.std.specs.Float.Ieee.{eq, ne, lt, le}
use Rattle.std.specs.Ordering.{partial_lt, partial_le, partial_gt, partial_ge}
use Rattle.forward.specs.Forward.{Fwd, compared, gt, ge, comparison}
use Rattle.forward.specs.Number.{of_parts}
use Rattle.forward.specs.declared.parts.Fwd as code

pub record Operators (n : ℕ) : Type 0 where
  pub not_equal : (x y : Fwd n) → not (compared eq n x y) ≡ compared ne n x y
  pub below : (x y : Fwd n) → partial_lt (compared comparison n) x y ≡ compared lt n x y
  pub below_or_equal : (x y : Fwd n) → partial_le (compared comparison n) x y ≡ compared le n x y
  pub above : (x y : Fwd n) → partial_gt (compared comparison n) x y ≡ compared gt n x y
  pub above_or_equal : (x y : Fwd n) → partial_ge (compared comparison n) x y ≡ compared ge n x y

-- the same of the code's Fwd<T>, whose parts hold the numbers of order n that `number` says: on the right stands what the
-- five promise, in the words of specs/Forward.antt
pub record OperatorsOf (n : ℕ) {T : Type 0} (number : T → Fwd n) : Type 0 where
  pub not_equal : (x y : code.Fwd T) → not (compared eq (suc n) (of_parts number x) (of_parts number y)) ≡ compared ne (suc n) (of_parts number x) (of_parts number y)
  pub below : (x y : code.Fwd T) → partial_lt (λ a b. compared comparison (suc n) (of_parts number a) (of_parts number b)) x y ≡ compared lt (suc n) (of_parts number x) (of_parts number y)
  pub below_or_equal : (x y : code.Fwd T) → partial_le (λ a b. compared comparison (suc n) (of_parts number a) (of_parts number b)) x y ≡ compared le (suc n) (of_parts number x) (of_parts number y)
  pub above : (x y : code.Fwd T) → partial_gt (λ a b. compared comparison (suc n) (of_parts number a) (of_parts number b)) x y ≡ compared gt (suc n) (of_parts number x) (of_parts number y)
  pub above_or_equal : (x y : code.Fwd T) → partial_ge (λ a b. compared comparison (suc n) (of_parts number a) (of_parts number b)) x y ≡ compared ge (suc n) (of_parts number x) (of_parts number y)
