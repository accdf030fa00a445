-- The nodes that were tested and those that are left are sound exactly if all of them are.
use mathlib.Core.Path.{◌∙◌}
use Rattle.dual.proofs.Loops.{sound_next}
use Rattle.dual.proofs.planning.is_sound_between.Goals as goal

pub loop-i-preserved : goal.loop-i-preserved
loop-i-preserved c = sound_next c.args.nodes _ _ c.loop-i.sound _ c.is_sound-sound.ensures c.loop-i-test.true ∙ c.loop-i.invariant
