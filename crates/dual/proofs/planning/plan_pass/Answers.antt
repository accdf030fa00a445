-- By the root that was found and the range that was tested (proofs/Plans.antt).
use mathlib.Core.Path.{◌≡◌, ap, ◌∙◌}
use Rattle.std.proofs.Common.{rules, Err}
use Rattle.std.specs.Result.{result_and}
use Rattle.tape.specs.Calls.{plan}
use Rattle.tape.specs.Admission.{admission, admitted}
use Rattle.tape.specs.declared.admission.Caller.TheVariants as caller
use Rattle.dual.specs.Outcome.{pass_of}
use Rattle.dual.specs.Inner.{found_root}
use Rattle.dual.proofs.Plans.{ready_so, refuses, plans}
use Rattle.dual.proofs.planning.plan_pass.Goals as goal

pub returns-in_err-root-clause-value : goal.returns-in_err-root-clause-value
returns-in_err-root-clause-value c =
    let a = c.args in
    let found = c.let_in.ensures ∙ ap (λ n. result_and (admitted (admission caller.Passing n a.tape)) (found_root a.tape a.nodes.serial.now (plan (pass_of a.which) a.tape).root)) c.of.ensures in
    let same : c.from_residual.result ≡ Err c.in_err-root.field-0.0 = search rules in
    same ∙ refuses a.tape a.nodes a.adjoint.now a.which _ found _ c.in_err-root.was

pub returns : goal.returns
returns c =
    let a = c.args in
    let found = c.let_in.ensures ∙ ap (λ n. result_and (admitted (admission caller.Passing n a.tape)) (found_root a.tape a.nodes.serial.now (plan (pass_of a.which) a.tape).root)) c.of.ensures in
    let same = plans a.tape a.nodes a.adjoint.now a.which _ found _ c.in_ok-root.was _ c.range_of-span.ensures _ c.if_sound.ensures in
    record { value = same; ready = ready_so a.tape a.nodes a.adjoint.now (pass_of a.which) _ same }
