-- The step of a move, by one lemma for all six.
use Rattle.tape.specs.Calls.{stop}
use Rattle.tape.proofs.Moves.{move_steps}
use Rattle.tape.proofs.tape.Tape.stop_recording.Goals as goal

pub returns : goal.returns
returns c = move_steps stop _ _ c.moved_to.ensures
