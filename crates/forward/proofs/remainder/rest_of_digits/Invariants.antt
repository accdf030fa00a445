-- What is left so far is what the number left when it had as many places.
use Rattle.std.proofs.Common.{◌≡◌, ◌*◌, ◌%◌, ◌^◌, ◌<◌}
use Rattle.forward.proofs.remainder.rest_of_digits.Given as goal

abbrev pub invariant-loop : goal.invariant-loop
invariant-loop l = (l.rest ≡ l.m * 2 ^ l.counter % l.n) × (l.rest < l.n)
