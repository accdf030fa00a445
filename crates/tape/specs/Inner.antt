-- What the private functions of src/ promise. Only their proofs use it; every public promise speaks of the machine.
use Rattle.std.specs.Prelude.{Result, Ok, Err}
use Rattle.tape.specs.declared.admission.Lengths.{Lengths}
use Rattle.tape.specs.declared.errors.Refusal.{Refusal}
use Rattle.tape.specs.declared.tape.Tape.{Tape}

-- the lengths of no array, as a call hands them on that is lent none
abbrev pub no_arrays : Lengths
no_arrays = record { value = 0; adjoint = 0; serial = 0; count = 0; child = 0; partial = 0 }

-- the state after a move, if it was let in
abbrev pub moved_by : Result (Unit {0}) Refusal → Tape → Result Tape Refusal
moved_by (Ok tt) after = Ok after
moved_by (Err r) after = Err r
