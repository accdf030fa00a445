-- The lines of docs/LAWS.md, in its order; those on grouped sums are in Regrouped.antt. Proved in proofs/Examples.antt,
-- by computation.
use Rattle.std.specs.Prelude.{false, [], ◌∷◌}
use Rattle.std.specs.Float.{inf}
use Rattle.std.specs.Float.Ieee.{neg}
use Rattle.forward.specs.Forward.{Fwd, nought, one, constant, sum, difference, product, quotient, negation, sum_plain, difference_plain, plain_difference, product_plain, quotient_plain, plain_quotient, max_val, min_val}
use Rattle.forward.specs.Rows.{float}
use Rattle.laws.specs.Shown.{Kept, Changed, tenths}
use Rattle.laws.specs.Regrouped.{left_first, first, second, third}

-- (0.1, 3) and (0.2, 0.7)
abbrev pub x : Fwd 1
x = (tenths 1, float 3)

abbrev pub y : Fwd 1
y = (tenths 2, tenths 7)

-- (1, -0)
abbrev pub flat : Fwd 1
flat = (float 1, neg nought)

-- (infinity, 1)
abbrev pub endless : Fwd 1
endless = (inf false, float 1)

abbrev pub forty_nine : Fwd 1
forty_nine = constant 1 (float 49)

pub record Safe : Type 0 where
  -- x + y and y + x
  pub sum_exchanged : Kept 1 (sum 1 x y) (sum 1 y x) (0x3fd3_3333_3333_3334 ∷ 0x400d_9999_9999_999a ∷ [])
  -- x * y and y * x
  pub product_exchanged : Kept 1 (product 1 x y) (product 1 y x) (0x3f94_7ae1_47ae_147c ∷ 0x3fe5_70a3_d70a_3d71 ∷ [])
  -- x - y and x + (-y)
  pub minus_is_plus_negated : Kept 1 (difference 1 x y) (sum 1 x (negation 1 y)) (0xbfb9_9999_9999_999a ∷ 0x4002_6666_6666_6666 ∷ [])
  -- x - k and x + (-k), of plain 0.3
  pub minus_plain_is_plus_negated : Kept 1 (difference_plain 1 x (tenths 3)) (sum_plain 1 x (neg (tenths 3))) (0xbfc9_9999_9999_9999 ∷ 0x4008_0000_0000_0000 ∷ [])
  -- -(-x) and x
  pub negated_twice : Kept 1 (negation 1 (negation 1 flat)) flat (0x3ff0_0000_0000_0000 ∷ 0x8000_0000_0000_0000 ∷ [])

pub record NotSafe : Type 0 where
  -- (x + y) + z and (x + z) + y
  pub last_two_exchanged : Changed 1 (left_first 1 first second third) (left_first 1 first third second) (0x4018_0000_0000_0000 ∷ 0x4010_0000_0000_0000 ∷ []) (0x4018_0000_0000_0000 ∷ 0x4008_0000_0000_0000 ∷ [])
  -- (x - y) - z and x - (y + z)
  pub differences_regrouped : Changed 0 (difference 0 (difference 0 (tenths 3) (tenths 1)) (tenths 2)) (difference 0 (tenths 3) (sum 0 (tenths 1) (tenths 2))) (0xbc80_0000_0000_0000 ∷ []) (0xbc90_0000_0000_0000 ∷ [])
  -- (x * y) * z and x * (y * z)
  pub products_regrouped : Changed 0 (product 0 (product 0 (tenths 1) (tenths 2)) (tenths 3)) (product 0 (tenths 1) (product 0 (tenths 2) (tenths 3))) (0x3f78_9374_bc6a_7efb ∷ []) (0x3f78_9374_bc6a_7efa ∷ [])
  -- x * (y + z) and x * y + x * z
  pub multiplied_out : Changed 0 (product 0 (tenths 1) (sum 0 (tenths 1) (tenths 3))) (sum 0 (product 0 (tenths 1) (tenths 1)) (product 0 (tenths 1) (tenths 3))) (0x3fa4_7ae1_47ae_147c ∷ []) (0x3fa4_7ae1_47ae_147b ∷ [])
  -- (x * y) / z and x * (y / z)
  pub quotient_regrouped : Changed 0 (quotient 0 (product 0 (tenths 1) (tenths 1)) (tenths 1)) (product 0 (tenths 1) (quotient 0 (tenths 1) (tenths 1))) (0x3fb9_9999_9999_999b ∷ []) (0x3fb9_9999_9999_999a ∷ [])
  -- x / y and x * (1 / y)
  pub by_the_reciprocal : Changed 1 (quotient 1 forty_nine forty_nine) (product 1 forty_nine (plain_quotient 1 one forty_nine)) (0x3ff0_0000_0000_0000 ∷ 0 ∷ []) (0x3fef_ffff_ffff_ffff ∷ 0 ∷ [])
  -- -(x - y) and y - x
  pub minus_out_of_a_difference : Changed 0 (negation 0 (difference 0 (float 1) (float 1))) (difference 0 (float 1) (float 1)) (0x8000_0000_0000_0000 ∷ []) (0 ∷ [])
  -- -(x + y) and -x - y
  pub minus_out_of_a_sum : Changed 0 (negation 0 (sum 0 (float 1) (neg (float 1)))) (difference 0 (neg (float 1)) (neg (float 1))) (0x8000_0000_0000_0000 ∷ []) (0 ∷ [])
  -- (-x) * y and -(x * y)
  pub minus_out_of_a_product : Changed 1 (product 1 (negation 1 (float 1, float 1)) (float 1, neg (float 1))) (negation 1 (product 1 (float 1, float 1) (float 1, neg (float 1)))) (0xbff0_0000_0000_0000 ∷ 0 ∷ []) (0xbff0_0000_0000_0000 ∷ 0x8000_0000_0000_0000 ∷ [])
  -- -x and 0 - x
  pub minus_from_zero : Changed 1 (negation 1 (constant 1 nought)) (plain_difference 1 nought (constant 1 nought)) (0x8000_0000_0000_0000 ∷ 0x8000_0000_0000_0000 ∷ []) (0 ∷ 0x8000_0000_0000_0000 ∷ [])
  -- x + 0 and x
  pub plus_zero : Changed 1 (sum 1 flat (constant 1 nought)) flat (0x3ff0_0000_0000_0000 ∷ 0 ∷ []) (0x3ff0_0000_0000_0000 ∷ 0x8000_0000_0000_0000 ∷ [])
  -- x * 1 and x
  pub times_one : Changed 1 (product 1 flat (constant 1 one)) flat (0x3ff0_0000_0000_0000 ∷ 0 ∷ []) (0x3ff0_0000_0000_0000 ∷ 0x8000_0000_0000_0000 ∷ [])
  -- x + k and x + constant k
  pub plus_plain : Changed 1 (sum_plain 1 flat (float 2)) (sum 1 flat (constant 1 (float 2))) (0x4008_0000_0000_0000 ∷ 0x8000_0000_0000_0000 ∷ []) (0x4008_0000_0000_0000 ∷ 0 ∷ [])
  -- x * k and x * constant k
  pub times_plain : Changed 1 (product_plain 1 endless (float 2)) (product 1 endless (constant 1 (float 2))) (0x7ff0_0000_0000_0000 ∷ 0x4000_0000_0000_0000 ∷ []) (0x7ff0_0000_0000_0000 ∷ 0x7ff8_0000_0000_0000 ∷ [])
  -- x / k and x / constant k
  pub over_plain : Changed 1 (quotient_plain 1 forty_nine (float 49)) (quotient 1 forty_nine forty_nine) (0x3fef_ffff_ffff_ffff ∷ 0 ∷ []) (0x3ff0_0000_0000_0000 ∷ 0 ∷ [])
  -- k - x and (-x) + k
  pub plain_minus : Changed 2 (plain_difference 2 (float 3) (constant 2 nought)) (sum_plain 2 (negation 2 (constant 2 nought)) (float 3)) (0x4008_0000_0000_0000 ∷ 0 ∷ 0x8000_0000_0000_0000 ∷ 0x8000_0000_0000_0000 ∷ []) (0x4008_0000_0000_0000 ∷ 0x8000_0000_0000_0000 ∷ 0x8000_0000_0000_0000 ∷ 0x8000_0000_0000_0000 ∷ [])
  -- x - x and 0
  pub less_itself : Changed 1 (difference 1 endless endless) (constant 1 nought) (0x7ff8_0000_0000_0000 ∷ 0 ∷ []) (0 ∷ 0 ∷ [])
  -- max of x and y, and of y and x; min likewise
  pub max_exchanged : Changed 1 (max_val 1 (float 1, float 5) (float 1, float 7)) (max_val 1 (float 1, float 7) (float 1, float 5)) (0x3ff0_0000_0000_0000 ∷ 0x4014_0000_0000_0000 ∷ []) (0x3ff0_0000_0000_0000 ∷ 0x401c_0000_0000_0000 ∷ [])
  pub min_exchanged : Changed 1 (min_val 1 (float 1, float 5) (float 1, float 7)) (min_val 1 (float 1, float 7) (float 1, float 5)) (0x3ff0_0000_0000_0000 ∷ 0x4014_0000_0000_0000 ∷ []) (0x3ff0_0000_0000_0000 ∷ 0x401c_0000_0000_0000 ∷ [])
