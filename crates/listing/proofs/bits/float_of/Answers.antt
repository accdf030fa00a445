-- Of a NaN's pattern `lib.Ieee` makes its one NaN, which is what `f64::NAN` is.
use mathlib.Core.Path.{◌≡◌, refl, sym, ◌∙◌}
use lib.Ieee.{nan, binary64, of_bits}
use lib.Ieee.Bits.{nan_bits_is}
use Rattle.listing.proofs.Nan.{only_nan}
use Rattle.listing.proofs.bits.float_of.Goals as goal

the_nan : of_bits binary64 0x7ff8_0000_0000_0000 ≡ nan
unfolding of_bits
the_nan = refl

pub returns-then-is_nan : goal.returns-then-is_nan
returns-then-is_nan c =
    let bits = c.args.bits in
    the_nan ∙ only_nan (of_bits binary64 bits) (sym (nan_bits_is binary64 bits) ∙ sym c.is_nan.ensures ∙ c.if-is_nan.true)
