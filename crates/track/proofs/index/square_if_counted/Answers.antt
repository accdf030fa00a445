-- 0 where it is apart, and the rule's square where not.
use Rattle.track.specs.Index.{square_if_counted}
use Rattle.track.proofs.index.square_if_counted.Goals as goal

pub returns-then-is_apart : goal.returns-then-is_apart
unfolding square_if_counted
returns-then-is_apart c = rw (← c.is_apart.ensures, c.if-is_apart.true)

pub returns : goal.returns
unfolding square_if_counted
returns c = rw (← c.is_apart.ensures, c.if-is_apart.false)
