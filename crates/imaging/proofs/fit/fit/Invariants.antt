-- Each turn of the loop takes a step, of those that there is room for.
use Rattle.std.proofs.Common.{◌-◌}
use Rattle.arrayvec.specs.ArrayVec.{array_vec_len}
use Rattle.imaging.proofs.fit.fit.Given as goal

abbrev pub decreases-loop-machine : goal.decreases-loop-machine
decreases-loop-machine l = 64 - array_vec_len l.steps.taken
