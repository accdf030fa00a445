-- The files so far are as many more as the arguments that were taken.
use Rattle.std.proofs.Common.{◌≡◌, ◌+◌, ◌-◌, ◌≤◌}
use Rattle.imaging.specs.Tally.{files}
use Rattle.imaging.proofs.fit_all.Given as goal

abbrev pub invariant-loop-argument : goal.invariant-loop-argument
invariant-loop-argument g l =
    (l.first ≤ l.argument)
    × (files l.fn.told.tally ≤ l.first)
    × (l.argument - l.first ≤ l.end - l.first)
    × (files l.told.tally ≡ files l.fn.told.tally + (l.argument - l.first))
