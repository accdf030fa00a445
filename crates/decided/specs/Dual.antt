-- Every public function of crate dual.
use Rattle.decided.specs.Decided.{Decided}
use Rattle.dual.specs.contracts.reading as reading
use Rattle.dual.specs.contracts.clearing as clearing
use Rattle.dual.specs.contracts.passes as passes
use Rattle.dual.specs.contracts.slicing as slicing
use Rattle.dual.proofs.reading as told_reading
use Rattle.dual.proofs.clearing as told_clearing
use Rattle.dual.proofs.passes as told_passes
use Rattle.dual.proofs.slicing as told_slicing

pub record Dual : Type 0 where
  pub value : Decided reading.value.ended told_reading.value.Reads.Learnt
  pub adjoint : Decided reading.adjoint.ended told_reading.adjoint.Reads.Learnt
  pub is_live : Decided reading.is_live.ended told_reading.is_live.Reads.Learnt
  pub reset_adjoints : Decided clearing.reset_adjoints.ended told_clearing.reset_adjoints.Reads.Learnt
  pub backward : Decided passes.backward.ended told_passes.backward.Reads.Learnt
  pub backward_to_mark : Decided passes.backward_to_mark.ended told_passes.backward_to_mark.Reads.Learnt
  pub backward_mark_to_start : Decided passes.backward_mark_to_start.ended told_passes.backward_mark_to_start.Reads.Learnt
  pub propagate_to_mark : Decided passes.propagate_to_mark.ended told_passes.propagate_to_mark.Reads.Learnt
  pub propagate_mark_to_start : Decided passes.propagate_mark_to_start.ended told_passes.propagate_mark_to_start.Reads.Learnt
  pub run : Decided passes.run.ended told_passes.run.Reads.Learnt
  pub open_pass : Decided slicing.open_pass.ended told_slicing.open_pass.Reads.Learnt
  pub take_slice : Decided slicing.take_slice.ended told_slicing.take_slice.Reads.Learnt
