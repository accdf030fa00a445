-- Which of the laws hold of the values that a tape records, by its operations table: 1 is a sum, 2 a difference, 3 a
-- product, and 7 the negation, which is 0 - l; that max and min choose as max_val and min_val do; and that the square
-- root's partial is the derivative of sqrt. Proved in proofs/OnATape.antt.
use Rattle.std.specs.Prelude.{ℕ, ◌≡◌, [], ◌∷◌, Float}
use Rattle.std.proofs.Math.Option.{some}
use Rattle.std.specs.Float.{nan}
use Rattle.std.specs.Float.Ieee.{neg}
use Rattle.root.specs.Root.{Double}
use Rattle.forward.specs.Forward.{Fwd, nought, constant, variable, derivative, sqrt, max_val, min_val}
use Rattle.tape.specs.Numbers.{floats}
use Rattle.tape.specs.Operations.{Row, MAX, MIN, SQRT, apply}
use Rattle.laws.specs.Shown.{Changed}

-- the row of operation op; what the host supplies is not used by those named here
abbrev pub row_of : ℕ → Float → Float → Row floats
row_of op l r = apply op l r (record { value = nan; left = nan; right = nan })

-- its value; 7 does not use r
abbrev pub recorded : ℕ → Float → Float → Float
recorded op l r = (row_of op l r).value

abbrev pub negated : Float → Float
negated l = recorded 7 l nan

-- the derivative of a choice between two forward numbers, where the left one moves and the right one does not
abbrev pub moved_left : (Fwd 1 → Fwd 1 → Fwd 1) → Float → Float → Float
moved_left choose l r = derivative 1 1 (choose (variable 1 l) (constant 1 r))

pub record OnATape : Type 0 where
  -- x + y and y + x
  pub sum_exchanged : (x y : Float) → recorded 1 x y ≡ recorded 1 y x
  -- x * y and y * x
  pub product_exchanged : (x y : Float) → recorded 3 x y ≡ recorded 3 y x
  -- x - k and x + (-k), of a plain k
  pub minus_plain_is_plus_negated : (x k : Float) → recorded 2 x k ≡ recorded 1 x (neg k)
  -- but not x - y and x + (-y): at -0 and +0 they are -0 and +0
  pub minus_is_not_plus_negated : Changed 0 (recorded 2 (neg nought) nought) (recorded 1 (neg nought) (negated nought)) (0x8000_0000_0000_0000 ∷ []) (0 ∷ [])
  -- nor -(-x) and x: at -0 they are +0 and -0
  pub not_negated_twice : Changed 0 (negated (negated (neg nought))) (neg nought) (0 ∷ []) (0x8000_0000_0000_0000 ∷ [])
  -- the left partial is the derivative of max_val and min_val as the left operand moves: at a tie 1, as theirs
  pub max_pulls_left : (l r : Float) → (row_of MAX l r).left ≡ some (moved_left (max_val 1) l r)
  pub min_pulls_left : (l r : Float) → (row_of MIN l r).left ≡ some (moved_left (min_val 1) l r)
  -- the partial of a root s is 0.5 / s, and the derivative of sqrt at a variable is 1.0 / (s * 2.0): of every double the
  -- same bits
  pub root_pulls : (x : Float) → Double x → (row_of SQRT x nan).left ≡ some (derivative 1 1 (sqrt 1 (variable 1 x)))
