-- A read's answer is what the machine's step gives, and so are the answer of clearing, of a pass, of its opening or of a
-- slice, and the adjoints that it leaves.
use mathlib.Core.Path.{◌≡◌}
use mathlib.Core.List.{List}
use lib.Ieee.{Float}
use Rattle.tape.specs.Numbers.{floats}
use Rattle.tape.specs.Machine.{Arrays, Machine}
use Rattle.tape.specs.declared.errors.Refusal.{Refusal}
use Rattle.tape.specs.declared.tape.Tape.{Tape}
use Rattle.dual.specs.Outcome.{sliced_outcome}
use Rattle.dual.specs.declared.slicing.Sliced.{Sliced}
use Rattle.dual.proofs.OneToOne.{one_to_one}
use Rattle.std.specs.Prelude.{Result}
use Rattle.decided.specs.Dual.{Dual}
use Rattle.decided.proofs.Rules.{through_with}

-- what is left of a read's parameters: nothing
abbrev nothing : {U : Type 0} → U → Machine floats → U
nothing u M = u

-- what is left of a pass's: the adjoints, between the state and the nodes and the rest u, of which nothing is
abbrev pub adjoints : {U : Type 0} → U → Machine floats → Unit {0} × (Unit {0} × (List Float × U))
adjoints u M = (tt, (tt, (M.lent.adjoint, u)))

-- the same where a pass is named first
abbrev adjoints_behind : {U : Type 0} → U → Machine floats → Unit {0} × (Unit {0} × (Unit {0} × (List Float × U)))
adjoints_behind u M = (tt, adjoints u M)

-- the same of an opening's and of a slice's, whose answer has the state
abbrev adjoints_lent : {U : Type 0} → U → Arrays floats → Unit {0} × (Unit {0} × (List Float × U))
adjoints_lent u A = (tt, (tt, (A.adjoint, u)))

-- an opening's or a slice's answer and what it leaves, on the one state
sliced : (t : Tape) (x y : Result Sliced Refusal) (A B : Arrays floats) → sliced_outcome x t A ≡ sliced_outcome y t B → (x ≡ y) × (A ≡ B)
sliced t x y A B e = let s = one_to_one.sliced_outcome x y t t A B e in (s.0, s.1)

pub dual : Dual
dual = record {
  value = record { same = through_with one_to_one.read_outcome (nothing _) _ _ };
  adjoint = record { same = through_with one_to_one.read_outcome (nothing _) _ _ };
  is_live = record { same = through_with one_to_one.liveness_outcome (nothing _) _ _ };
  reset_adjoints = record { same = through_with one_to_one.cleared_outcome (adjoints _) _ _ };
  backward = record { same = through_with one_to_one.pass_outcome (adjoints _) _ _ };
  backward_to_mark = record { same = through_with one_to_one.pass_outcome (adjoints _) _ _ };
  backward_mark_to_start = record { same = through_with one_to_one.pass_outcome (adjoints _) _ _ };
  propagate_to_mark = record { same = through_with one_to_one.pass_outcome (adjoints _) _ _ };
  propagate_mark_to_start = record { same = through_with one_to_one.pass_outcome (adjoints _) _ _ };
  run = record { same = through_with one_to_one.pass_outcome (adjoints_behind _) _ _ };
  open_pass = record { same = through_with (sliced _) (adjoints_lent _) _ _ };
  take_slice = record { same = through_with (sliced _) (adjoints_lent _) _ _ };
}
