-- The lines that are left, run on the machine so far, come to what all of them come to.
use Prim.Native.Nat.{◌+◌, ◌≤◌}
use mathlib.Core.Path.{◌≡◌}
use lib.ListN.{length}
use Rattle.tape.specs.Machine.{SameArrays, machine, lent_mut}
use Rattle.session.specs.Session.{lines, run_lines}
use Rattle.session.specs.Inner.{reading}
use Rattle.session.proofs.lines.run_lines.Given as goal

abbrev pub invariant-loop-line : goal.invariant-loop-line
invariant-loop-line l = record {
  goes : (goal.iterator-loop-line).can_next l.line-iterator;
  ends : (goal.iterator-loop-line).is_finite l.line-iterator;
  left : run_lines reading l.line-iterator.a.start (lines l.line-iterator.b.rest.now) (machine l.state (lent_mut l.nodes l.adjoint)) ≡ run_lines reading 1 (lines l.session) (machine l.fn.tape (lent_mut l.initial.nodes l.initial.adjoint));
  few : l.line-iterator.a.start + length l.line-iterator.b.rest.now ≤ 65537;
  same : SameArrays l.initial.nodes l.nodes;
}
