-- The rule as the code goes about it is the machine's step (proofs/Stepped.antt).
use mathlib.Core.Path.{◌≡◌, ap, ◌∙◌}
use Rattle.std.proofs.Common.{rules}
use Rattle.std.specs.Prelude.{Err}
use Rattle.tape.specs.Numbers.{floats}
use Rattle.tape.specs.Machine.{Arrays, lent, lent_mut, machine}
use Rattle.expr.specs.Inner.{node_said, decided}
use Rattle.expr.specs.Outcome.{outcome}
use Rattle.expr.proofs.Stepped.{refused_by, made_by}
use Rattle.expr.proofs.recording.record.Goals as goal

pub returns-in_err-node-clause-step : goal.returns-in_err-node-clause-step
returns-in_err-node-clause-step c =
    let a = c.args in
    let A = lent_mut a.nodes.now a.adjoint.now in
    let same : lent c.shared.result a.adjoint.now ≡ A = ap (λ n. lent n a.adjoint.now) c.shared.ensures in
    let d : node_said c.decide.result ≡ decided (machine a.tape A) a.op a.left a.right a.supplied =
    c.decide.ensures ∙ ap (λ (A : Arrays floats). decided (machine a.tape A) a.op a.left a.right a.supplied) same in
    let e : c.from_residual.result ≡ Err c.in_err-node.field-0.0 = search rules in
    ap (λ x. outcome x a.tape A) e ∙ refused_by (machine a.tape A) a.op a.left a.right a.supplied c.decide.result d _ c.in_err-node.was

pub returns-clause-step : goal.returns-clause-step
returns-clause-step c =
    let a = c.args in
    let A = lent_mut a.nodes.now a.adjoint.now in
    let same : lent c.shared.result a.adjoint.now ≡ A = ap (λ n. lent n a.adjoint.now) c.shared.ensures in
    let d : node_said c.decide.result ≡ decided (machine a.tape A) a.op a.left a.right a.supplied =
    c.decide.ensures ∙ ap (λ (A : Arrays floats). decided (machine a.tape A) a.op a.left a.right a.supplied) same in
    c.record_if_room.ensures.step ∙ made_by (machine a.tape A) a.op a.left a.right a.supplied c.decide.result d c.in_ok-node.node c.in_ok-node.was
