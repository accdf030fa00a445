-- Promises that leave something open are not decided.
use denote.Triple.Entry.{Res}
use denote.Triple.Clauses.{Ended, AtExit}
use Rattle.tape.specs.contracts.tape.Tape as tape
use Rattle.expr.specs.contracts.recording as recording
use Rattle.dual.specs.contracts.passes as passes
use Rattle.listing.specs.contracts.listing as listing
use Rattle.tape.proofs.tape.Tape as told_tape
use Rattle.expr.proofs.recording as told_recording
use Rattle.dual.proofs.passes as told_passes
use Rattle.listing.proofs.listing as told_listing
use Rattle.decided.specs.Decided.{Promise, Decided}

-- the promise with the lent arrays forgotten
abbrev pub answer_alone : (T : Ended) → Promise T → Promise T
answer_alone T P κs a z e = (s : AtExit T κs) × P κs a z s

-- the promise with the answer forgotten
abbrev pub arrays_alone : (T : Ended) → Promise T → Promise T
arrays_alone T P κs a z e = (x : Res T.signature κs) × P κs a x e

pub record Open : Type 0 where
  pub six_arrays : ¬ Decided recording.«record».ended (answer_alone recording.«record».ended told_recording.«record».Reads.Learnt)
  pub adjoints : ¬ Decided passes.backward.ended (answer_alone passes.backward.ended told_passes.backward.Reads.Learnt)
  pub bytes : ¬ Decided listing.list.ended (answer_alone listing.list.ended told_listing.list.Reads.Learnt)
  pub answer : ¬ Decided tape.new.ended (arrays_alone tape.new.ended told_tape.new.Reads.Learnt)
