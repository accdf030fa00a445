-- The plan, carried out, is the pass (proofs/Plans.antt).
use mathlib.Core.Path.{◌≡◌, sym, ap, ◌∙◌}
use Rattle.std.proofs.Common.{rules, Err}
use Rattle.tape.specs.Machine.{machine, lent}
use Rattle.tape.specs.Calls.{pass}
use Rattle.dual.specs.Outcome.{pass_of, pass_outcome}
use Rattle.dual.proofs.Plans.{refused_so, carries}
use Rattle.dual.proofs.passes.run.Goals as goal

pub returns-in_err-plan : goal.returns-in_err-plan
returns-in_err-plan c =
    let a = c.args in
    let same : c.from_residual.result ≡ Err c.in_err-plan.field-0.0 = search rules in
    ap (λ y. pass_outcome y (machine a.tape (lent a.nodes a.adjoint.now))) same
    ∙ refused_so a.tape a.nodes a.adjoint.now (pass (pass_of a.which)) _ _ (sym c.plan_pass.ensures.value ∙ c.in_err-plan.was)

pub returns : goal.returns
returns c =
    let a = c.args in
    rw (c.carry_out.ensures.value, c.carry_out.ensures.adjoint_after)
    (carries a.tape a.nodes a.adjoint.now (pass_of a.which) _ (sym c.plan_pass.ensures.value ∙ c.in_ok-plan.was))
