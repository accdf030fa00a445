-- Turned away, or planned by the test of what the slice takes (proofs/Plans.antt).
use mathlib.Core.Path.{◌≡◌, ◌∙◌}
use Rattle.std.proofs.Common.{rules, Err}
use Rattle.tape.specs.Numbers.{floats}
use Rattle.tape.specs.Machine.{Machine, machine, lent}
use Rattle.tape.specs.Admission.{let_in}
use Rattle.tape.specs.declared.admission.Caller.TheVariants as caller
use Rattle.tape.proofs.Steps.{is_refused}
use Rattle.dual.proofs.Readings.{asked_of}
use Rattle.dual.proofs.Plans.{slice_refused}
use Rattle.dual.proofs.planning.plan_slice.Goals as goal

pub returns-in_err-admit-clause-value : goal.returns-in_err-admit-clause-value
returns-in_err-admit-clause-value c =
    let a = c.args in
    let M : Machine floats = machine a.tape (lent a.nodes a.adjoint.now) in
    let same : c.from_residual.result ≡ Err c.in_err-admit.field-0.0 = search rules in
    let away = is_refused _ (let_in (caller.Slice a.nodes_asked) M) _ (asked_of M (caller.Slice a.nodes_asked) _ _ c.admit.ensures c.of.ensures) c.in_err-admit.was in
    same ∙ slice_refused a.tape a.nodes a.adjoint.now a.nodes_asked _ away
