-- Sums grouped otherwise are not claimed to be the same: they are not. Proved in proofs/Regrouped.antt, the two cases
-- by computation.
use Rattle.std.specs.Prelude.{ℕ, ◌^◌, ◌≡◌, [], ◌∷◌}
use Rattle.std.specs.Float.Ieee.{neg}
use Rattle.forward.specs.Forward.{Fwd, sum}
use Rattle.forward.specs.Rows.{float}
use Rattle.laws.specs.Shown.{Changed, tenths}

-- (x + y) + z
abbrev pub left_first : (n : ℕ) → Fwd n → Fwd n → Fwd n → Fwd n
left_first n x y z = sum n (sum n x y) z

-- x + (y + z)
abbrev pub right_first : (n : ℕ) → Fwd n → Fwd n → Fwd n → Fwd n
right_first n x y z = sum n x (sum n y z)

-- the law that there is not
abbrev pub Regroups : ℕ → Type 0
Regroups n = (x y z : Fwd n) → left_first n x y z ≡ right_first n x y z

-- values 1, 2 and 3 with derivatives 3, 2^53 and -2^53
abbrev pub first : Fwd 1
first = (float 1, float 3)

abbrev pub second : Fwd 1
second = (float 2, float (2 ^ 53))

abbrev pub third : Fwd 1
third = (float 3, neg (float (2 ^ 53)))

-- two cases in which it is not so
pub record Cases : Type 0 where
  -- order 0: (0.1 + 0.2) + 0.3 is 0.6000000000000001, and 0.1 + (0.2 + 0.3) is 0.6
  pub floats : Changed 0 (left_first 0 (tenths 1) (tenths 2) (tenths 3)) (right_first 0 (tenths 1) (tenths 2) (tenths 3)) (0x3fe3_3333_3333_3334 ∷ []) (0x3fe3_3333_3333_3333 ∷ [])
  -- inside a derivative part: the value is 6 either way, and the derivative (3 + 2^53) - 2^53 is 4 while 3 + (2^53 -
  -- 2^53) is 3
  pub derivative_part : Changed 1 (left_first 1 first second third) (right_first 1 first second third) (0x4018_0000_0000_0000 ∷ 0x4010_0000_0000_0000 ∷ []) (0x4018_0000_0000_0000 ∷ 0x4008_0000_0000_0000 ∷ [])

-- and there is no order at which it is so
abbrev pub AtNoOrder : Type 0
AtNoOrder = (n : ℕ) → Regroups n → ⊥
