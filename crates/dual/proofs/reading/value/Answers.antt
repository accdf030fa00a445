-- Turned away, or answered by what stands behind the operand.
use mathlib.Core.Path.{◌≡◌, ap, ◌∙◌}
use Rattle.std.proofs.Common.{rules, Err}
use Rattle.tape.specs.Numbers.{floats}
use Rattle.tape.specs.Machine.{Machine, machine, lent}
use Rattle.tape.specs.Admission.{let_in}
use Rattle.tape.specs.declared.admission.Caller.TheVariants as caller
use Rattle.tape.proofs.Steps.{turned_away, is_granted}
use Rattle.dual.specs.Outcome.{read_outcome}
use Rattle.dual.proofs.Readings.{asked_of, value_of_number, value_of_node}
use Rattle.dual.proofs.reading.value.Goals as goal

pub returns-in_err-admit : goal.returns-in_err-admit
returns-in_err-admit c =
    let M : Machine floats = machine c.args.tape (lent c.args.nodes c.args.adjoint.now) in
    let same : c.from_residual.result ≡ Err c.in_err-admit.field-0.0 = search rules in
    ap (λ y. read_outcome y M) same ∙ turned_away _ M _ _ (asked_of M caller.Value _ _ c.admit.ensures c.of.ensures) c.in_err-admit.was

pub returns-in-Number : goal.returns-in-Number
returns-in-Number c =
    let M : Machine floats = machine c.args.tape (lent c.args.nodes c.args.adjoint.now) in
    let k = is_granted _ (let_in caller.Value M) (asked_of M caller.Value _ _ c.admit.ensures c.of.ensures) c.in_ok-admit.was in
    value_of_number M _ _ c.in-Number.is k

pub returns-in-Node : goal.returns-in-Node
returns-in-Node c =
    let M : Machine floats = machine c.args.tape (lent c.args.nodes c.args.adjoint.now) in
    let k = is_granted _ (let_in caller.Value M) (asked_of M caller.Value _ _ c.admit.ensures c.of.ensures) c.in_ok-admit.was in
    value_of_node M _ _ c.in-Node.is k _ c.behind.ensures
