-- Part by part; the parts' lengths add up.
use Rattle.text.specs.Numerals.{bytes}
use Rattle.text.proofs.Stores.{then-two, then-written}
use Rattle.listing.proofs.listing.write_line.Goals as goal

pub returns : goal.returns
returns c =
    then-written (then-two (then-two c.write_labelled_decimal-at_value.ensures (bytes " val=") _ c.write_labelled_bits-at_adjoint.ensures) (bytes " adj=") _ c.write_labelled_bits-at_end.ensures)
    (bytes "\n") c.requires.room c.write_text.ensures
