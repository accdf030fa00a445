-- The header's length and the lines', which stay far below what a usize holds.
use native.Mathlib.Omega.{arith}
use mathlib.Core.List.{[]}
use Rattle.tape.specs.Numbers.{floats}
use Rattle.tape.specs.Machine.{Arrays, arrays}
use Rattle.listing.proofs.Lines.{listing_length, lines_length}
use Rattle.text.proofs.Numerals.{decimal_short}
use Rattle.listing.proofs.listing.listing_length.Goals as goal

-- how many bytes the lines take does not depend on the arrays
abbrev any : Arrays floats
any = arrays [] [] [] [] [] []

pub overflow_add-result-2 : goal.overflow_add-result-2
overflow_add-result-2 c = omega (arith, decimal_short c.args.tape.length, decimal_short c.args.tape.mark)

pub overflow_add-result-3 : goal.overflow_add-result-3
overflow_add-result-3 c =
    let t = c.args.tape in
    omega (arith, decimal_short t.length, decimal_short t.mark, c.lines_length.ensures any, lines_length any t.length (omega arith))

pub returns : goal.returns
returns c A = omega (arith, listing_length c.args.tape A, c.lines_length.ensures A)
