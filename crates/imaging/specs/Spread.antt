-- How well a track fits: the root mean square and the standard errors, from the sums of crate track. Everything is
-- relative to nominal. `turn_variance` and `seen_variance` are squares of relative standard errors.
use Rattle.std.specs.Prelude.{◌≡◌, cond, from_bits, Float}
use Rattle.std.specs.Float.{binary64}
use Rattle.std.specs.Float.Ieee.{add, sub, mul, div, lt}
use Rattle.root.specs.Value.{root}
use Rattle.imaging.specs.Text.{float, fraction}

-- 1.0
abbrev pub one : Float
one = from_bits binary64 0x3ff0_0000_0000_0000

-- the root of the mean of so many squares
abbrev pub root_mean : Float → Float → Float
root_mean squares count = root (div binary64 squares count)

-- of `turn`, the mean of so many index times: Σ (T - turn)² / (K (K - 1)) / turn². Of one time 0 stands for it
abbrev pub turn_variance : Float → Float → Float → Float
turn_variance squares count turn =
    cond (lt one count) (div binary64 (div binary64 squares (mul binary64 count (sub binary64 count one))) (mul binary64 turn turn)) (from_bits binary64 0)

-- of `seen`, the time of so many intervals over their cells, Σt / Σn: Σ (t - n seen)² N / (N - 1) / (Σn seen)²
abbrev pub seen_variance : Float → Float → Float → Float → Float
seen_variance squares count cells seen =
    let time = mul binary64 cells seen in
    div binary64 (div binary64 (mul binary64 squares count) (sub binary64 count one)) (mul binary64 time time)

-- speed = 1 / turn, so that its relative error is that of turn
abbrev pub speed_error : Float → Float → Float
speed_error speed of_turn = mul binary64 speed (root of_turn)

-- cell = seen / turn, so that the squares of the two relative errors add up
abbrev pub cell_error : Float → Float → Float → Float
cell_error cell of_seen of_turn = mul binary64 cell (root (add binary64 of_seen of_turn))

-- ---- worked rows, by computation (proofs/Proved.antt)

pub record SpreadRows : Type 0 where
  -- turns of 1 + 1/256 and 1 - 1/256
  pub of_two_turns : turn_variance (fraction 2 65536) (float 2) one ≡ fraction 1 65536
  pub of_one_turn : turn_variance (float 0) (float 1) one ≡ float 0
  -- nine residuals, each 3/16, of intervals of 3 cells
  pub of_nine_intervals : seen_variance (fraction 81 256) (float 9) (float 27) one ≡ fraction 1 2048
