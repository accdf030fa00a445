-- The number so far and the bytes that are left make the whole, and one digit more still fits.
use Rattle.text.proofs.Reading.{Read}
use Rattle.text.proofs.read.value.Given as goal

abbrev pub invariant-loop-byte : goal.invariant-loop-byte
invariant-loop-byte l = Read l.base l.text l.n l.byte-index
