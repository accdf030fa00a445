-- The lines left to write, over those that were written, make the whole.
use Rattle.tape.specs.Machine.{lent}
use Rattle.tape.specs.Walk.{indexes}
use Rattle.tape.specs.Listing.{lines}
use Rattle.listing.proofs.Lines.{lines_from}
use Rattle.text.proofs.Stores.{Left}
use Rattle.listing.proofs.listing.write_lines.Given as goal

abbrev pub invariant-loop-i : goal.invariant-loop-i
invariant-loop-i l = let A = lent l.fn.nodes l.adjoint in Left l.initial.out l.at (lines A (indexes 0 l.live)) l.out l.end (lines_from A l.live l.i)
