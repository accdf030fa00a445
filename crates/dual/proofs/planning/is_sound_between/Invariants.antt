-- The nodes that were tested and those that are left are sound exactly if all of them are.
use mathlib.Core.Path.{◌≡◌}
use mathlib.Core.Bool.{◌&&◌}
use Rattle.dual.proofs.Loops.{sound_from}
use Rattle.dual.proofs.planning.is_sound_between.Given as goal

abbrev pub invariant-loop-i : goal.invariant-loop-i
invariant-loop-i l = (l.sound && sound_from l.nodes l.i l.i-end) ≡ sound_from l.nodes l.initial.i l.i-end
