-- The label, then the 16 digits of the bits.
use Rattle.text.specs.Numerals.{hex}
use Rattle.text.proofs.Numerals.{length_hex}
use Rattle.text.proofs.Stores.{wrote_both}
use Rattle.listing.proofs.listing.write_labelled_bits.Goals as goal

pub returns : goal.returns
returns c =
    rw (← c.bits_of.ensures)
    (wrote_both c.args.label.now (hex c.bits_of.result) (rw (length_hex c.bits_of.result) c.requires) c.write_text-at_bits.ensures c.write_hex.ensures)
