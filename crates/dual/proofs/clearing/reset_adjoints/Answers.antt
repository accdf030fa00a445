-- Turned away, or the live adjoints are cleared and nothing else.
use mathlib.Core.Path.{◌≡◌, ap, ◌∙◌}
use mathlib.Core.List.{◌++◌}
use lib.ListN.{drop, replicate}
use Rattle.std.proofs.Common.{rules, Err}
use Rattle.std.proofs.lemmas.Slice.{overwrites}
use Rattle.tape.specs.Numbers.{floats}
use Rattle.tape.specs.Machine.{Machine, machine, lent}
use Rattle.tape.specs.Admission.{let_in}
use Rattle.tape.specs.declared.admission.Caller.TheVariants as caller
use Rattle.tape.proofs.Steps.{turned_away, is_granted}
use Rattle.dual.specs.Outcome.{cleared_outcome}
use Rattle.dual.proofs.Readings.{asked_of, cleared_so}
use Rattle.dual.proofs.clearing.reset_adjoints.Goals as goal

pub returns-in_err-admit : goal.returns-in_err-admit
returns-in_err-admit c =
    let M : Machine floats = machine c.args.tape (lent c.args.nodes c.args.adjoint.now) in
    let same : c.from_residual.result ≡ Err c.in_err-admit.field-0.0 = search rules in
    ap (λ y. cleared_outcome y M) same ∙ turned_away _ M _ _ (asked_of M caller.Clearing _ _ c.admit.ensures c.of.ensures) c.in_err-admit.was

pub returns : goal.returns
returns c =
    let M : Machine floats = machine c.args.tape (lent c.args.nodes c.args.adjoint.now) in
    let k = is_granted _ (let_in caller.Clearing M) (asked_of M caller.Clearing _ _ c.admit.ensures c.of.ensures) c.in_ok-admit.was in
    let filled : c.fill.new.self ≡ replicate c.args.tape.length floats.nought = search (rules, overwrites) in
    cleared_so M _ k (ap (λ s. s ++ drop c.args.tape.length c.args.adjoint.now) filled)
