-- The lines left to write, over those that were written, make the whole.
use native.Mathlib.Omega.{arith}
use Rattle.tape.specs.Machine.{lent}
use Rattle.listing.proofs.Lines.{first_line, first_length, line_length}
use Rattle.text.proofs.Stores.{less_left}
use Rattle.listing.proofs.listing.write_lines.Goals as goal

pub write_line-end-requires-clause-room : goal.write_line-end-requires-clause-room
write_line-end-requires-clause-room c =
    let A = lent c.args.nodes c.args.adjoint.now in
    omega (arith, line_length A c.loop-i.i, first_length A _ _ c.loop-i-test.true)

pub loop-i-preserved : goal.loop-i-preserved
loop-i-preserved c = less_left (rw (first_line (lent _ _) _ _ c.loop-i-test.true) at c.loop-i.invariant) c.write_line-end.ensures
