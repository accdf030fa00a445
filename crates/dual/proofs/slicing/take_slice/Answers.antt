-- As planned, carried out, with the nodes that are left (proofs/Plans.antt).
use mathlib.Core.Path.{◌≡◌, sym, ap, ◌∙◌}
use Rattle.std.proofs.Common.{rules, Err}
use Rattle.tape.specs.Machine.{lent}
use Rattle.tape.specs.Calls.{slice}
use Rattle.dual.specs.Outcome.{sliced_outcome}
use Rattle.dual.proofs.Plans.{refused_so, slices}
use Rattle.dual.proofs.slicing.take_slice.Goals as goal

pub returns-in_err-plan : goal.returns-in_err-plan
returns-in_err-plan c =
    let a = c.args in
    let same : c.from_residual.result ≡ Err c.in_err-plan.field-0.0 = search rules in
    ap (λ y. sliced_outcome y a.tape (lent a.nodes a.adjoint.now)) same
    ∙ refused_so a.tape a.nodes a.adjoint.now (slice a.nodes_asked) _ _ (sym c.plan_slice.ensures.value ∙ c.in_err-plan.was)

pub returns : goal.returns
returns c =
    let a = c.args in
    rw (c.nodes_in.ensures, c.walking.ensures, c.carry_out-visited.ensures.value, c.carry_out-visited.ensures.adjoint_after, c.left_after-left.ensures, c.left_of.ensures)
    (slices a.tape a.nodes a.adjoint.now a.nodes_asked _ (sym c.plan_slice.ensures.value ∙ c.in_ok-plan.was))
