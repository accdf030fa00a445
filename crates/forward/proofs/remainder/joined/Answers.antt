-- One place up at a turn; at the end the pattern is the exponent's field and the digits.
use Rattle.forward.proofs.Rest.{moved_up, joined_so}
use Rattle.forward.proofs.remainder.joined.Goals as goal

pub loop-digits-preserved : goal.loop-digits-preserved
loop-digits-preserved c =
    let l = c.loop-digits in
    moved_up l.digits l.exponent _ c.loop-digits-test.true l.invariant.1 l.invariant.2

pub returns : goal.returns
returns c =
    let l = c.loop-digits in
    joined_so l.digits l.exponent _ l.invariant.0 l.invariant.1 c.loop-digits-test.false l.invariant.2
