-- A search from no decimals on.
use Rattle.imaging.proofs.Searched.{Searched}
use Rattle.imaging.proofs.digits.error_places.Given as goal

abbrev pub invariant-loop-places : goal.invariant-loop-places
invariant-loop-places l = Searched l.error l.places
