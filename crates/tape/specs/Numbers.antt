-- What a tape computes with. Everything below is stated over any such numbers, and no law of them is assumed; the tape
-- of document 01 is over `floats`.
use Rattle.std.specs.Prelude.{ℕ, Bool, Float}
use Rattle.std.specs.Float.{nan, binary64}
use Rattle.std.specs.Float.Ieee.{of_bits, to_bits, add, sub, mul, div, lt, le}
use Rattle.root.specs.Value as Value

pub record Numbers : Type 1 where
  pub Number : Type 0
  pub plus : Number → Number → Number
  pub minus : Number → Number → Number
  pub times : Number → Number → Number
  pub over : Number → Number → Number
  -- the square root
  pub root : Number → Number
  pub nought : Number
  pub one : Number
  pub half : Number
  -- < and <=, of the values
  pub less : Number → Number → Bool
  pub at_most : Number → Number → Bool
  -- what is done to a partial before it is stored
  pub stored : Number → Number
  -- the bit pattern by which a listing shows a number
  pub bits : Number → ℕ
  -- what stands past the end of an array and of the operations table, where the refusals let no call read
  pub blank : Number

-- IEEE 754 binary64. `nought` is +0.0, `one` is 1.0, `half` is 0.5, a partial is stored as it is, and any NaN has the
-- bits 7ff8000000000000 (`to_bits`)
abbrev pub floats : Numbers
floats = record {
  Number = Float;
  plus = add binary64;
  minus = sub binary64;
  times = mul binary64;
  over = div binary64;
  root = Value.root;
  nought = of_bits binary64 0;
  one = of_bits binary64 0x3ff0_0000_0000_0000;
  half = of_bits binary64 0x3fe0_0000_0000_0000;
  less = lt;
  at_most = le;
  stored = λ p. p;
  bits = to_bits binary64;
  blank = nan;
}
