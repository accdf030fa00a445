-- An interval in bit cells, and what it weighs. A float is written as its bits, with what it is beside it.
use Rattle.std.specs.Prelude.{ℕ, suc, ◌*◌, Bool, cond, not, List, [], ◌∷◌, pos, ◌==◌, from_bits, Float}
use Rattle.std.specs.Float.{binary64}
use Rattle.std.specs.Float.Ieee.{sub, mul, div, lt, le, of_int}
use Rattle.root.specs.Value.{root as square_root}
use Rattle.track.specs.declared.cells.Weighed.{Weighed}

-- the float of a whole number
abbrev pub float : ℕ → Float
float n = of_int binary64 (pos n)

-- 80.0, the ticks of a nominal cell
abbrev pub cell : Float
cell = from_bits binary64 0x4054_0000_0000_0000

-- ticks in nominal cells
abbrev pub in_cells : ℕ → Float
in_cells ticks = div binary64 (float ticks) cell

-- 1.5, 2.5, 3.5, 4.5, 5.5, 6.5, 7.5: from the k-th on there are more than k cells
abbrev pub boundaries : List ℕ
boundaries =
    0x3ff8_0000_0000_0000 ∷ 0x4004_0000_0000_0000 ∷ 0x400c_0000_0000_0000 ∷ 0x4012_0000_0000_0000
    ∷ 0x4016_0000_0000_0000 ∷ 0x401a_0000_0000_0000 ∷ 0x401e_0000_0000_0000 ∷ []

-- the number of the first boundary that a time is below, in cells as long as is seen; if none, one more than there are
abbrev pub first_above : Float → Float → List ℕ → ℕ
first_above seen t [] = 1
first_above seen t (b ∷ bs) = cond (lt t (mul binary64 (from_bits binary64 b) seen)) 1 (suc (first_above seen t bs))

-- how many cells, 1 to 8, come nearest to so many ticks
unfoldable pub nearest_cells : Float → ℕ → ℕ
nearest_cells seen ticks = first_above seen (in_cells ticks) boundaries

-- the root of n cells
unfoldable pub root : ℕ → Float
root n = square_root (float n)

-- a quarter of a nominal cell, squared, over n cells
unfoldable pub clip : ℕ → Float
clip n = div binary64 (float 1) (float (16 * n))

-- an interval with its weight
unfoldable pub weighed : Float → ℕ → Weighed
weighed seen ticks =
    let n = nearest_cells seen ticks in
    record { scaled = div binary64 (in_cells ticks) (root n); root = root n; clip = clip n }

-- more than a quarter of a nominal cell from its cells, each as long as is seen
unfoldable pub off : Float → ℕ → Bool
off seen ticks =
    let w = weighed seen ticks in
    let x = sub binary64 w.scaled (mul binary64 seen w.root) in
    not (le (mul binary64 x x) w.clip)

-- 1 for an interval of so many cells
abbrev pub of_length : Float → ℕ → ℕ → ℕ
of_length seen cells ticks = cond (nearest_cells seen ticks == cells) 1 0

-- 1 for an interval that is off
abbrev pub one_if_off : Float → ℕ → ℕ
one_if_off seen ticks = cond (off seen ticks) 1 0

-- the cells of an interval that is not off, and so pulls
abbrev pub cells_if_pulling : Float → ℕ → ℕ
cells_if_pulling seen ticks = cond (off seen ticks) 0 (nearest_cells seen ticks)

-- what an interval is from its cells, squared, in nominal cells; 0 for one that is off
unfoldable pub square_if_pulling : Float → ℕ → Float
square_if_pulling seen ticks =
    let x = sub binary64 (in_cells ticks) (mul binary64 (float (nearest_cells seen ticks)) seen) in
    cond (off seen ticks) (from_bits binary64 0) (mul binary64 x x)
