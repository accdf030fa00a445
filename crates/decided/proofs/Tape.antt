-- A lookup and the admission are given by their rules; a move answers the machine's step whatever arrays the caller
-- keeps, so beside empty ones.
use mathlib.Core.Path.{◌≡◌}
use mathlib.Core.List.{[]}
use Rattle.std.specs.Prelude.{Result}
use Rattle.tape.specs.Numbers.{floats}
use Rattle.tape.specs.Machine.{Arrays, Machine, arrays}
use Rattle.tape.specs.Answers.{Answer, outcome}
use Rattle.tape.specs.declared.errors.Refusal.{Refusal}
use Rattle.tape.specs.declared.tape.Tape as code
use Rattle.tape.proofs.OneToOne.{one_to_one}
use Rattle.decided.specs.Tape.{Tape}
use Rattle.decided.proofs.Rules.{equal, through}

-- the rule gives what a move tells beside any arrays
moved : {U : Type 0} (t : code.Tape) {x y : Result code.Tape Refusal} {o : Arrays floats → Answer floats × Machine floats} {u : U} → ((A : Arrays floats) → outcome x t A ≡ o A) → ((A : Arrays floats) → outcome y t A ≡ o A) → (x ≡ y) × (u ≡ u)
moved t p q = let A : Arrays floats = arrays [] [] [] [] [] [] in through (λ x y e. (one_to_one.moves x y t t A e).0) (p A) (q A)

pub tape : Tape
tape = record {
  number = record { same = equal };
  lookup = record { same = equal };
  usable = record { same = equal };
  shared = record { same = equal };
  lengths_of = record { same = equal };
  new = record { same = equal };
  start_recording = record { same = moved _ };
  stop_recording = record { same = moved _ };
  set_mark = record { same = moved _ };
  reset_mark = record { same = moved _ };
  rewind_to_mark = record { same = moved _ };
  rewind_to_init = record { same = moved _ };
  admit = record { same = equal };
  walking = record { same = equal };
}
