-- A search for the first that stands in the middle.
use Rattle.std.proofs.Common.{sym, ◌∙◌}
use Rattle.track.specs.Index.{median}
use Rattle.track.proofs.Searched.{found, none_found}
use Rattle.track.proofs.index.median.Goals as goal

pub returns-then-is_middle : goal.returns-then-is_middle
unfolding median
returns-then-is_middle c =
    found c.loop-time.invariant c.loop-time-test.true (sym c.is_middle.ensures ∙ c.if-is_middle.true)

pub returns : goal.returns
unfolding median
returns c = none_found c.loop-time.invariant c.loop-time-test.false
