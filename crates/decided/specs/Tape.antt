-- Every public function of crate tape.
use Rattle.decided.specs.Decided.{Decided}
use Rattle.tape.specs.contracts.errors.Refusal as refusal
use Rattle.tape.specs.contracts.node.Handle as handle
use Rattle.tape.specs.contracts.admission.Lengths as lengths
use Rattle.tape.specs.contracts.nodes.NodesMut as nodes
use Rattle.tape.specs.contracts.tape.Tape as tape
use Rattle.tape.proofs.errors.Refusal as told_refusal
use Rattle.tape.proofs.node.Handle as told_handle
use Rattle.tape.proofs.admission.Lengths as told_lengths
use Rattle.tape.proofs.nodes.NodesMut as told_nodes
use Rattle.tape.proofs.tape.Tape as told_tape

pub record Tape : Type 0 where
  pub number : Decided refusal.number.ended told_refusal.number.Reads.Learnt
  pub lookup : Decided handle.lookup.ended told_handle.lookup.Reads.Learnt
  pub usable : Decided handle.usable.ended told_handle.usable.Reads.Learnt
  pub shared : Decided nodes.shared.ended told_nodes.shared.Reads.Learnt
  pub lengths_of : Decided lengths.of.ended told_lengths.of.Reads.Learnt
  pub new : Decided tape.new.ended told_tape.new.Reads.Learnt
  pub start_recording : Decided tape.start_recording.ended told_tape.start_recording.Reads.Learnt
  pub stop_recording : Decided tape.stop_recording.ended told_tape.stop_recording.Reads.Learnt
  pub set_mark : Decided tape.set_mark.ended told_tape.set_mark.Reads.Learnt
  pub reset_mark : Decided tape.reset_mark.ended told_tape.reset_mark.Reads.Learnt
  pub rewind_to_mark : Decided tape.rewind_to_mark.ended told_tape.rewind_to_mark.Reads.Learnt
  pub rewind_to_init : Decided tape.rewind_to_init.ended told_tape.rewind_to_init.Reads.Learnt
  pub admit : Decided tape.admit.ended told_tape.admit.Reads.Learnt
  pub walking : Decided tape.walking.ended told_tape.walking.Reads.Learnt
