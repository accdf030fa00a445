-- What is left to take off, of what is left, makes the whole.
use Rattle.std.proofs.Common.{◌≡◌, ◌-◌}
use Rattle.imaging.specs.Text.{without}
use Rattle.imaging.proofs.digits.without.Given as goal

abbrev pub invariant-loop : goal.invariant-loop
invariant-loop l = without (l.places - l.counter) l.rest ≡ without l.places l.n
