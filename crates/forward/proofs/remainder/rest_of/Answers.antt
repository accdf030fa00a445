-- By which exponent is lower.
use Rattle.forward.proofs.Rest.{leaves_itself, leaves_digits}
use Rattle.forward.proofs.remainder.rest_of.Goals as goal

pub returns-then-x-y : goal.returns-then-x-y
returns-then-x-y c = leaves_itself c.args.size c.args.divisor _ _ _ _ c.requires.0 c.requires.1 c.split-x.ensures c.split-y.ensures c.if-x-y.true

pub returns : goal.returns
returns c =
    leaves_digits c.args.size c.args.divisor _ _ _ _ _ _ c.requires.1 c.split-x.ensures c.split-y.ensures c.if-x-y.false c.rest_of_digits.ensures.0 c.joined.ensures.0 c.joined.ensures.1
