-- Serials only grow: by cases on what a step leaves.
use Prim.Native.Nat.{ℕ, ◌≤◌}
use native.Mathlib.Nat.{le_refl}
use native.Mathlib.Omega.{arith}
use mathlib.Core.List.{List, [], ◌∷◌}
use Rattle.tape.specs.Numbers.{Numbers}
use Rattle.tape.specs.Machine.{Machine}
use Rattle.tape.specs.Answers.{Answer}
use Rattle.tape.specs.Calls.{Call}
use Rattle.tape.specs.Steps.{step, run}
use Rattle.tape.specs.Kept.{Serials, Ascending, NoneNought, serials, serial_of}
use Rattle.tape.proofs.Steps.{Effect, keeps, records, effect, kept}

module _ {N : Numbers} {M : Machine N} where
  pub never_fall : {x : Answer N × Machine N} → Effect M x → M.state.next ≤ x.1.state.next
  never_fall (keeps l e) = omega arith
  never_fall (records v es r s) = omega arith

  not_nought : {x : Answer N × Machine N} (ss : List ℕ) → Effect M x → NoneNought ss → NoneNought (serial_of x.0.handle ss)
  not_nought ss (keeps l _) n = n
  not_nought ss (records v es r s) n = (r.fit.state.next, n)

  ascends : {x : Answer N × Machine N} (ss : List ℕ) → Effect M x → Ascending x.1.state.next ss → Ascending M.state.next (serial_of x.0.handle ss)
  ascends ss (keeps l e) a = rw e at a
  ascends ss (records v es r s) a = (le_refl _, a)

never_nought : {N : Numbers} (cs : List (Call N)) (M : Machine N) → NoneNought (serials (run cs M).0)
never_nought [] M = tt
never_nought (c ∷ cs) M = not_nought (serials (run cs (step c M).1).0) (effect c M) (never_nought cs (step c M).1)

never_repeat : {N : Numbers} (cs : List (Call N)) (M : Machine N) → Ascending M.state.next (serials (run cs M).0)
never_repeat [] M = tt
never_repeat (c ∷ cs) M = ascends (serials (run cs (step c M).1).0) (effect c M) (never_repeat cs (step c M).1)

pub serials_kept : Serials
serials_kept = record {
  never_fall = λ cs M. kept (λ M'. M.state.next ≤ M'.state.next) (λ M' x e l. omega (arith, never_fall e)) cs M (le_refl _);
  never_nought = never_nought;
  never_repeat = never_repeat;
}
