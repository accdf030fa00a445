-- The step of a move, by one lemma for all six.
use Rattle.tape.specs.Calls.{start}
use Rattle.tape.proofs.Moves.{move_steps}
use Rattle.tape.proofs.tape.Tape.start_recording.Goals as goal

pub returns : goal.returns
returns c = move_steps start _ _ c.moved_to.ensures
