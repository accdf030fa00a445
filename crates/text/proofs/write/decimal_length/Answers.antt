-- By the power of ten that the number reaches.
use Rattle.std.proofs.Common.{rules}
use Rattle.text.proofs.ReadBack.{one_over_power}
use Rattle.text.proofs.write.decimal_length.Goals as goal

pub returns : goal.returns
returns c = search (rules, one_over_power)
