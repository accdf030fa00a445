-- What is left of both, compared, is the whole comparison.
use Rattle.session.proofs.Matches.{Matched}
use Rattle.session.proofs.reading.is.Given as goal

abbrev pub invariant-loop-i : goal.invariant-loop-i
invariant-loop-i l = Matched l.text l.word l.i
