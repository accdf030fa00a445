-- Every public function of crate expr.
use Rattle.decided.specs.Decided.{Decided}
use Rattle.expr.specs.contracts.operators as operators
use Rattle.expr.specs.contracts.recording as recording
use Rattle.expr.proofs.operators as told_operators
use Rattle.expr.proofs.recording as told_recording

pub record Expr : Type 0 where
  pub new_leaf : Decided operators.new_leaf.ended told_operators.new_leaf.Reads.Learnt
  pub put_on_tape : Decided operators.put_on_tape.ended told_operators.put_on_tape.Reads.Learnt
  pub «record» : Decided recording.«record».ended told_recording.«record».Reads.Learnt
