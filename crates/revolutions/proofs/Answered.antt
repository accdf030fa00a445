-- A step is the first refusal of the table, or what the call does: as `step` says.
use mathlib.Core.Path.{◌≡◌, refl, sym, ap, ◌∙◌}
use mathlib.Core.Bool.{true}
use mathlib.Core.Option.{Option, none, some}
use Rattle.tape.specs.Numbers.{Numbers}
use Rattle.tape.specs.Machine.{Machine}
use Rattle.tape.specs.Answers.{number}
use Rattle.tape.specs.Calls.{Call, carried}
use Rattle.tape.specs.Refusals.{refusal_of}
use Rattle.tape.specs.Steps.{unless, step}
use Rattle.tape.specs.declared.errors.Refusal.{Refusal}
use Rattle.tape.proofs.OneToOne.{never_nought, one_to_one}
use Rattle.tape.proofs.Passes.{carried_number}
use Rattle.tape.proofs.Steps.{by_table}
use Rattle.revolutions.specs.Answered.{among, listed, Demand1}

stepped : {N : Numbers} (c : Call N) (M : Machine N) (o : Option Refusal) → refusal_of c M ≡ o → step c M ≡ unless o M (carried c M)
unfolding step
stepped c M o e = ap (λ o. unless o M (carried c M)) e

-- the number of what a first refusal, or none, gives
then : {N : Numbers} (c : Call N) (M : Machine N) (o : Option Refusal) (r : Refusal) → (unless o M (carried c M)).0.number ≡ number r → o ≡ some r
then c M none r e = absurd (never_nought r (sym e ∙ carried_number c M))
then c M (some q) r e = ap some (one_to_one.numbers q r e)

listed_so : {N : Numbers} (c : Call N) (M : Machine N) (r : Refusal) → refusal_of c M ≡ some r → among (number r) listed ≡ true
listed_so c M = by_table (λ r. among (number r) listed ≡ true) c M (record {
  misshapen = refl;
  out_of_turn = λ _. refl;
  unfit = refl;
  unknown = refl;
  stale = λ _ _ _ _. refl;
  never_issued = λ _ _ _ _. refl;
  detached = refl;
  full = refl;
  spent = refl;
  unsound = λ _ _ _. refl;
  too_long = refl;
})

pub demand_1 : Demand1
demand_1 = record {
  refused = λ c M r e. stepped c M (some r) e;
  answered = λ c M e. let carries = stepped c M none e in (carries, ap (λ x. x.0.number) carries ∙ carried_number c M);
  exactly_then = λ c M r e. then c M (refusal_of c M) r (sym (ap (λ x. x.0.number) (stepped c M (refusal_of c M) refl)) ∙ e);
  listed = listed_so;
}
