-- A sum of at most 8 for each interval, which 64 bits hold.
use Rattle.std.proofs.Common.{ℕ, ◌≤◌, Bool, true, false, cond, get_or, sym, ◌∙◌, arith}
use lib.Ieee.{Float}
use Rattle.track.specs.Cells.{off, cells_if_pulling}
use Rattle.track.proofs.Lengths.{one_to_eight}
use Rattle.track.proofs.Totals.{one_added}
use Rattle.track.proofs.cells.pulling_cells.Goals.{then-not-is_off, else-not-is_off}
use Rattle.track.proofs.cells.pulling_cells.Goals as goal

at_most_eight : (seen : Float) (ticks : ℕ) → cells_if_pulling seen ticks ≤ 8
at_most_eight seen ticks = by_test (off seen ticks) (one_to_eight seen ticks).1
  where
    by_test : {n : ℕ} (b : Bool) → n ≤ 8 → cond b 0 n ≤ 8
    by_test true h = omega arith
    by_test false h = h

pub overflow_add-cells : goal.overflow_add-cells
overflow_add-cells c =
    let a = c.args in
    let few = rw (← c.nearest_cells-cells.ensures) at (one_to_eight a.seen (get_or a.ticks.now c.loop-t.t-index 0)) in
    omega arith

pub loop-t-preserved : goal.loop-t-preserved
loop-t-preserved c =
    let known = sym c.is_off.ensures in
    elim c.if-not-is_off.branch [
      | then-not-is_off w ↦ one_added c.loop-t.invariant c.loop-t-test.true (at_most_eight _ _) (rw (known ∙ w.if-not-is_off.true, ← w.nearest_cells-cells.ensures) w.cells-is)
      | else-not-is_off w ↦ one_added c.loop-t.invariant c.loop-t-test.true (at_most_eight _ _) (rw (known ∙ w.if-not-is_off.false) (omega arith))
    ]
