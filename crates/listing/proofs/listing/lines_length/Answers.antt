-- The lines' closed form, whose sums stay far below what a usize holds.
use native.Mathlib.Omega.{arith}
use Rattle.listing.proofs.Lines.{lines_length}
use Rattle.listing.proofs.listing.lines_length.Goals as goal

pub returns : goal.returns
returns c A = omega (arith, lines_length A c.args.nodes (omega arith))
