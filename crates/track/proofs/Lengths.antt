-- An interval has 1 to 8 cells.
use Rattle.std.proofs.Common.{ℕ, suc, ◌≤◌, Bool, true, false, cond, List, [], ◌∷◌, length, arith}
use lib.Ieee.{Float, binary64, mul, lt, of_bits}
use Rattle.track.specs.Cells.{in_cells, boundaries, first_above, nearest_cells}

one_to_all : (seen t : Float) (bs : List ℕ) → (1 ≤ first_above seen t bs) × (first_above seen t bs ≤ suc (length bs))
one_to_all seen t [] = (omega arith, omega arith)
one_to_all seen t (b ∷ bs) = by_test (lt t (mul binary64 (of_bits binary64 b) seen)) (one_to_all seen t bs)
  where
    by_test : {n m : ℕ} (x : Bool) → (1 ≤ n) × (n ≤ m) → (1 ≤ cond x 1 (suc n)) × (cond x 1 (suc n) ≤ suc m)
    by_test true h = (omega arith, omega arith)
    by_test false h = (omega arith, omega arith)

pub one_to_eight : (seen : Float) (ticks : ℕ) → (1 ≤ nearest_cells seen ticks) × (nearest_cells seen ticks ≤ 8)
unfolding nearest_cells
one_to_eight seen ticks = one_to_all seen (in_cells ticks) boundaries
