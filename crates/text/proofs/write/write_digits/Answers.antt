-- By the test for room.
use mathlib.Core.Path.{sym, ◌∙◌}
use Rattle.text.proofs.Numerals.{digits_written, digits_not_written}
use Rattle.text.proofs.write.write_digits.Goals as goal

pub returns-then-not-has_room : goal.returns-then-not-has_room
returns-then-not-has_room c = digits_not_written 10 _ _ (sym c.has_room.ensures ∙ c.if-not-has_room.true)

pub returns : goal.returns
returns c = digits_written 10 _ _ (sym c.has_room.ensures ∙ c.if-not-has_room.false) c.fill.ensures
