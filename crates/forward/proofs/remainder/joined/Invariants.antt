-- Digits and exponent stand for the same units, and one place up is one less in the exponent.
use Rattle.std.proofs.Common.{◌≡◌, ◌*◌, ◌^◌, ◌≤◌, ◌<◌}
use Rattle.forward.proofs.remainder.joined.Given as goal

abbrev pub invariant-loop-digits : goal.invariant-loop-digits
invariant-loop-digits l = (l.digits < 2 ^ 53) × (l.exponent ≤ 2045) × (l.digits * 2 ^ l.exponent ≡ l.m * 2 ^ l.e)

abbrev pub decreases-loop-digits : goal.decreases-loop-digits
decreases-loop-digits l = l.exponent
