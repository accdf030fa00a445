-- After so many turns, so many times 10.
use Rattle.std.proofs.Common.{◌≡◌}
use Rattle.imaging.specs.Text.{scale}
use Rattle.imaging.proofs.digits.scale.Given as goal

abbrev pub invariant-loop : goal.invariant-loop
invariant-loop l = l.parts ≡ scale l.counter
