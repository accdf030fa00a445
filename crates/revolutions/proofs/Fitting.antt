-- What a resolved session has to be for its calls not to be refused, with no machine in it but the one at the start,
-- and that neighbours may change places in it.
use Prim.Native.Nat.{ℕ, suc, ◌+◌, ◌≤◌, ◌<◌}
use native.Mathlib.Omega.{arith}
use mathlib.Core.Path.{◌≡◌}
use mathlib.Core.Bool.{true, false, cond}
use mathlib.Core.List.{List, [], ◌∷◌, ◌++◌}
use lib.ListN.{length}
use Rattle.tape.specs.Numbers.{Numbers}
use Rattle.tape.specs.Machine.{Machine, machine, capacity}
use Rattle.tape.specs.Operations.{known, one_sided}
use Rattle.tape.specs.Calls.{start, moved}
use Rattle.tape.specs.Admission.{fits}
use Rattle.tape.specs.Refusals.{last_serial}
use Rattle.tape.proofs.Tests.{Fit}
use Rattle.revolutions.specs.Revolutions.{ResolvedOperand, in_model, own, number, ResolvedOperation, ResolvedRevolution, ResolvedSession}
use Rattle.revolutions.specs.Trading.{with_both}

-- an operand of the operation at place j, behind a model of m nodes, stands before it
abbrev pub Placed : {N : Numbers} → ℕ → ℕ → ResolvedOperand N → Type 0
Placed m j (in_model i) = i < m
Placed m j (own i) = i < j
Placed m j (number x) = Unit {0}

-- its operation is known, its operands stand before it, and zero stands for one that is not used
pub record Proper {N : Numbers} (m j : ℕ) (d : ResolvedOperation N) : Type 0 where
  pub operation : known d.operation ≡ true
  pub left : Placed m j d.left
  pub right : Placed m j d.right
  pub unused : cond (one_sided d.operation) (number N.nought) d.right ≡ d.right

-- operations at places j, j + 1 and so on
abbrev pub AllProper : {N : Numbers} → ℕ → ℕ → List (ResolvedOperation N) → Type 0
AllProper m j [] = Unit {0}
AllProper m j (d ∷ ds) = Proper m j d × AllProper m (suc j) ds

-- a revolution on arrays of n nodes
pub record ProperTurn {N : Numbers} (n m : ℕ) (t : ResolvedRevolution N) : Type 0 where
  pub operations : AllProper m 0 t.operations
  pub room : m + length t.operations ≤ n
  pub root : t.root < length t.operations

abbrev pub AllTurns : {N : Numbers} → ℕ → ℕ → List (ResolvedRevolution N) → Type 0
AllTurns n m [] = Unit {0}
AllTurns n m (t ∷ ts) = ProperTurn n m t × AllTurns n m ts

-- how many nodes the revolutions record
abbrev pub recorded_by : {N : Numbers} → List (ResolvedRevolution N) → ℕ
recorded_by [] = 0
recorded_by (t ∷ ts) = length t.operations + recorded_by ts

-- the last serial is none of the c serials from k on
abbrev pub Spared : ℕ → ℕ → Type 0
Spared k c = k ≤ last_serial → k + c ≤ last_serial

pub record Fitting {N : Numbers} (M : Machine N) (resolved : ResolvedSession N) : Type 0 where
  pub state : fits false M ≡ true
  pub arrays : Fit (machine (moved start M.state) M.lent)
  pub model : AllProper 0 0 resolved.model
  pub room : length resolved.model ≤ capacity M.lent
  pub revolutions : AllTurns (capacity M.lent) (length resolved.model) resolved.revolutions
  pub serials : Spared M.state.next (length resolved.model + recorded_by resolved.revolutions)

-- ---- neighbours change places

module _ {N : Numbers} (later : List (ResolvedRevolution N)) (p q : ResolvedRevolution N) where
  turns_exchanged : (n m : ℕ) (before : List (ResolvedRevolution N)) → AllTurns n m (before ++ (p ∷ q ∷ later)) → AllTurns n m (before ++ (q ∷ p ∷ later))
  turns_exchanged n m [] (a, (b, rest)) = (b, (a, rest))
  turns_exchanged n m (t ∷ before) (a, rest) = (a, turns_exchanged n m before rest)

  nodes_exchanged : (before : List (ResolvedRevolution N)) → recorded_by (before ++ (q ∷ p ∷ later)) ≡ recorded_by (before ++ (p ∷ q ∷ later))
  nodes_exchanged [] = omega arith
  nodes_exchanged (t ∷ before) = omega (arith, nodes_exchanged before)

  pub exchanged : (M : Machine N) (model : List (ResolvedOperation N)) (before : List (ResolvedRevolution N)) → Fitting M (with_both model before p q later) → Fitting M (with_both model before q p later)
  exchanged M model before f =
      record {
        state = f.state;
        arrays = f.arrays;
        model = f.model;
        room = f.room;
        revolutions = turns_exchanged (capacity M.lent) (length model) before f.revolutions;
        serials = λ h. omega (arith, nodes_exchanged before, f.serials h);
      }
