-- The step of a move, by one lemma for all six.
use Rattle.tape.specs.Calls.{rewind_to_mark}
use Rattle.tape.proofs.Moves.{move_steps}
use Rattle.tape.proofs.tape.Tape.rewind_to_mark.Goals as goal

pub returns : goal.returns
returns c = move_steps rewind_to_mark _ _ c.moved_to.ensures
