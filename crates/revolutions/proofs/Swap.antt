-- Either order of two neighbours runs: the one, resolved, fits, so does the other, and one that fits has a session that
-- runs.
use mathlib.Core.Path.{◌≡◌}
use mathlib.Core.List.{List}
use Rattle.tape.specs.Numbers.{Numbers}
use Rattle.tape.specs.Machine.{Machine}
use Rattle.tape.specs.Calls.{Call}
use Rattle.revolutions.specs.Revolutions.{Session, ResolvedOperation, ResolvedRevolution, resolve, RunsAs}
use Rattle.revolutions.specs.Trading.{with_both, Runnable}
use Rattle.revolutions.proofs.Fitting.{exchanged}
use Rattle.revolutions.proofs.FromRun.{runs_fitting}
use Rattle.revolutions.proofs.ToRun.{another}

pub either_order : {N : Numbers} (s : Session N) (cs : List (Call N)) (M : Machine N) (model : List (ResolvedOperation N)) (before later : List (ResolvedRevolution N)) (p q : ResolvedRevolution N) → RunsAs s cs M
    → resolve s ≡ with_both model before p q later → Runnable M (with_both model before q p later)
either_order s cs M model before later p q runs e = another M _ (exchanged later p q M model before (rw e at (runs_fitting s cs M runs)))
