-- Of NaN `lib.Ieee` has one pattern, which the code answers.
use mathlib.Core.Path.{sym, ap, ◌∙◌}
use lib.Ieee.{binary64, to_bits}
use Rattle.listing.proofs.Nan.{only_nan}
use Rattle.listing.proofs.bits.bits_of.Goals as goal

pub returns-then-is_nan : goal.returns-then-is_nan
unfolding to_bits
returns-then-is_nan c = ap (to_bits binary64) (only_nan c.args.x (sym c.is_nan.ensures.value ∙ c.if-is_nan.true))
