-- As planned, opened (proofs/Plans.antt).
use mathlib.Core.Path.{◌≡◌, sym, ap, ◌∙◌}
use Rattle.std.proofs.Common.{rules, Err}
use Rattle.tape.specs.Machine.{lent}
use Rattle.tape.specs.Calls.{open_pass}
use Rattle.dual.specs.Outcome.{pass_of, sliced_outcome}
use Rattle.dual.proofs.Plans.{refused_so, opens}
use Rattle.dual.proofs.slicing.open_pass.Goals as goal

pub returns-in_err-plan : goal.returns-in_err-plan
returns-in_err-plan c =
    let a = c.args in
    let same : c.from_residual.result ≡ Err c.in_err-plan.field-0.0 = search rules in
    ap (λ y. sliced_outcome y a.tape (lent a.nodes a.adjoint.now)) same
    ∙ refused_so a.tape a.nodes a.adjoint.now (open_pass (pass_of a.pass)) _ _ (sym c.plan_pass.ensures.value ∙ c.in_err-plan.was)

pub returns : goal.returns
returns c =
    let a = c.args in
    rw (c.nodes_in.ensures, c.walking.ensures, c.seed.ensures)
    (opens a.tape a.nodes a.adjoint.now (pass_of a.pass) _ (sym c.plan_pass.ensures.value ∙ c.in_ok-plan.was))
