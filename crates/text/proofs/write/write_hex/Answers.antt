-- The digits of the halves, one behind the other, are those of the pattern.
use mathlib.Core.Path.{sym, ◌∙◌}
use Rattle.text.proofs.Numerals.{digits_written}
use Rattle.text.proofs.Halves.{both}
use Rattle.text.proofs.write.write_hex.Goals as goal

pub returns : goal.returns
returns c = digits_written 16 16 c.args.bits (sym c.has_room.ensures ∙ c.if-not-has_room.false) (both 8 c.args.bits c.write_half.ensures c.write_half-2.ensures)
