-- Demand 1: every call on a tape, on any machine, ends in an answer or in one refusal of document 01's list.
-- The public calls of crates `tape`, `expr`, `dual` and `listing` are each a `step` of this machine, by their promises;
-- what a listing leaves in its bytes is in crates/listing/specs/Outcome.antt.
-- No step, and so not spoken of here, are the public functions that make a state or a number (`Tape::new`,
-- `Refusal::number`, `bits_of`) and those that calls are made of: `Handle::lookup` and `Handle::usable` answer
-- `looked_up` and `usable_as` (crates/tape/specs/Handles.antt), `Lengths::of` and `Tape::admit` answer `lengths` and
-- `admitted (admission ..)` (crates/tape/specs/Admission.antt), `NodesMut::shared` and `Tape::walking` answer `shared`
-- and `with_walk (walk_left ..)` (crates/tape/specs/Machine.antt).
use Rattle.std.specs.Prelude.{ℕ, ◌≡◌, Bool, true, false, ◌||◌, List, [], ◌∷◌, eqb}
use Rattle.std.proofs.Math.Option.{none, some}
use Rattle.tape.specs.Numbers.{Numbers}
use Rattle.tape.specs.Machine.{Machine}
use Rattle.tape.specs.Answers.{answer, number}
use Rattle.tape.specs.Calls.{Call, carried}
use Rattle.tape.specs.Refusals.{refusal_of}
use Rattle.tape.specs.Steps.{step}
use Rattle.tape.specs.declared.errors.Refusal.{Refusal}

abbrev pub among : ℕ → List ℕ → Bool
among k [] = false
among k (n ∷ ns) = eqb n k || among k ns

-- document 01's list of refusals, as document 02 amends it. 9 is not among them: it is of session files, and no call on
-- a tape gives it
abbrev pub listed : List ℕ
listed = 1 ∷ 2 ∷ 3 ∷ 4 ∷ 5 ∷ 6 ∷ 7 ∷ 8 ∷ 11 ∷ 12 ∷ 13 ∷ []

-- Proved in proofs/Answered.antt
pub record Demand1 : Type 1 where
  -- if a row of the table refuses, the first one's number is returned, value +0.0, no handle, count 0 and nodes left 0,
  -- and the machine is as it was
  pub refused : {N : Numbers} (c : Call N) (M : Machine N) (r : Refusal) → refusal_of c M ≡ some r
      → step c M ≡ (answer (number r) N.nought none 0 0, M)
  -- if none does, the call is carried out, and its answer has number 0
  pub answered : {N : Numbers} (c : Call N) (M : Machine N) → refusal_of c M ≡ none
      → (step c M ≡ carried c M) × ((step c M).0.number ≡ 0)
  -- so a number is returned exactly then
  pub exactly_then : {N : Numbers} (c : Call N) (M : Machine N) (r : Refusal) → (step c M).0.number ≡ number r
      → refusal_of c M ≡ some r
  -- and it is one of the list
  pub listed : {N : Numbers} (c : Call N) (M : Machine N) (r : Refusal) → refusal_of c M ≡ some r
      → among (number r) listed ≡ true
