-- The digits left to write, over those that were written, make the whole: a turn writes the last of them.
use Rattle.std.proofs.Common.{◌≡◌, ◌-◌, ◌≤◌, length}
use lib.Seq.{sets}
use Rattle.text.specs.Numerals.{digits}
use Rattle.text.proofs.write.fill.Given as goal

abbrev pub invariant-loop-place : goal.invariant-loop-place
invariant-loop-place l = (l.at ≤ l.place) × (length l.out ≡ length l.initial.out) × (sets l.out l.at (digits l.base (l.place - l.at) l.rest) ≡ sets l.initial.out l.at (digits l.base l.places l.n))
