-- A search from no decimals on.
use Rattle.std.proofs.Common.{sym, ◌∙◌}
use Rattle.imaging.proofs.Searched.{one_searched, found, none_found}
use Rattle.imaging.proofs.digits.error_places.Goals as goal

pub returns-then-shows_two_digits : goal.returns-then-shows_two_digits
returns-then-shows_two_digits c =
    found c.loop-places.invariant c.loop-places-test.true (sym c.shows_two_digits.ensures ∙ c.if-shows_two_digits.true)

pub loop-places-preserved : goal.loop-places-preserved
loop-places-preserved c =
    one_searched c.loop-places.invariant c.loop-places-test.true (sym c.shows_two_digits.ensures ∙ c.if-shows_two_digits.false)

pub returns : goal.returns
returns c = none_found c.loop-places.invariant c.loop-places-test.false
