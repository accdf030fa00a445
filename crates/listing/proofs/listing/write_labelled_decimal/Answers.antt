-- The label, then the number.
use Rattle.text.specs.Numerals.{decimal}
use Rattle.text.proofs.Stores.{wrote_both}
use Rattle.listing.proofs.listing.write_labelled_decimal.Goals as goal

pub returns : goal.returns
returns c = wrote_both c.args.label.now (decimal c.args.n) c.requires c.write_text-at_number.ensures c.write_decimal.ensures
