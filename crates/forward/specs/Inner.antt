-- What the private functions of src/remainder.rt promise. Only their proofs use it; every public promise speaks of
-- `rem`.
use Rattle.std.specs.Prelude.{ℕ, ◌*◌, ◌%◌, ◌^◌, ◌≤◌, ◌<◌, ◌≡◌}
use Rattle.std.specs.Float.{binary64}
use Rattle.std.specs.Float.Ieee.{of_bits}
use Rattle.root.specs.Root.{Units}

-- the double with the pattern b is m * 2 ^ e units, and m has 53 digits or e is 0
pub record Split (b m e : ℕ) : Type 0 where
  pub units : Units (of_bits binary64 b) (m * 2 ^ e)
  pub small : m < 2 ^ 53
  pub full : 0 < e → 2 ^ 52 ≤ m
  pub low : e ≤ 2045
  pub some : 0 < b → 0 < m

-- of x units, the double with the pattern a, y units, the pattern b's, leave q * 2 ^ j, the pattern r's
pub record Rest (a b r : ℕ) : Type 0 where
  pub x : ℕ
  pub y : ℕ
  pub q : ℕ
  pub j : ℕ
  pub whole : Units (of_bits binary64 a) x
  pub divisor : Units (of_bits binary64 b) y
  pub some : 0 < y
  pub left : x % y ≡ q * 2 ^ j
  pub small : q < 2 ^ 53
  pub low : j ≤ 2045
  pub result : Units (of_bits binary64 r) (q * 2 ^ j)
  pub below : r < 0x7ff0_0000_0000_0000
