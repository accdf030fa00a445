-- Each line is what is cut off up to its line feed (proofs/Turns.antt).
use native.Mathlib.Omega.{arith}
use mathlib.Core.Path.{◌≡◌, ap, ◌∙◌}
use borrow.Author.Rules.{rules}
use lib.ListN.{length, length-append}
use Rattle.std.specs.Prelude.{◌==◌, Ok, Err}
use Rattle.std.proofs.lemmas.List.Sorted.{answers_always}
use Rattle.std.proofs.lemmas.Result.{err_from_is_err_and}
use Rattle.tape.specs.Machine.{machine, lent_mut}
use Rattle.session.proofs.Turns.{one_ran, one_stopped, all_ran}
use Rattle.session.proofs.lines.run_lines.Goals as goal

pub loop-line-preserved : goal.loop-line-preserved
loop-line-preserved c =
    let ((at, next), (cut, (i, long, first), some)) = c.in-Some.ensures.steps in
    let feed = first (λ b. b == 10) (answers_always _ _ _ (λ f a r q k. search rules)) in
    let ran : c.read_and_run.result ≡ Ok tt = search rules in
    let l = c.loop-line in
    let text = c.in-Some.text.now in
    let later = c.next.new.self.b.rest.now in
    let step = one_ran l.line-iterator.b.rest.now text later l.line-iterator.a.start i (machine l.state (lent_mut l.nodes l.adjoint)) cut long feed.1 some (rw ran at c.read_and_run.ensures.step) in
    record {
      goes = search rules;
      ends = search rules;
      left = rw (next, at) (step ∙ l.invariant.left);
      few = omega (arith, ap length cut, length-append text later);
      same = search rules;
    }

pub returns-in_err-map_err-clause-whole : goal.returns-in_err-map_err-clause-whole
returns-in_err-map_err-clause-whole c =
    let ((at, next), (cut, (i, long, first), some)) = c.in-Some.ensures.steps in
    let feed = first (λ b. b == 10) (answers_always _ _ _ (λ f a r q k. search rules)) in
    let stop = c.in_err-map_err.field-0.0 in
    let ran : c.read_and_run.result ≡ Err stop.refusal = search rules in
    let there : stop.line ≡ c.in-Some.line = search rules in
    let p = err_from_is_err_and c.from_residual.result c.from_residual.ensures.1 in
    let l = c.loop-line in
    let step = one_stopped l.line-iterator.b.rest.now c.in-Some.text.now c.next.new.self.b.rest.now l.line-iterator.a.start i (machine l.state (lent_mut l.nodes l.adjoint)) cut long feed.1 some stop.refusal (rw ran at c.read_and_run.ensures.step) in
    rw (p.1, p.2, there, at) (step ∙ l.invariant.left)

pub returns-in_err-map_err-clause-small : goal.returns-in_err-map_err-clause-small
returns-in_err-map_err-clause-small c =
    let ((at, next), others) = c.in-Some.ensures.steps in
    let there : c.in_err-map_err.field-0.0.line ≡ c.in-Some.line = search rules in
    let p = err_from_is_err_and c.from_residual.result c.from_residual.ensures.1 in
    let few = c.loop-line.invariant.few in
    rw (p.1, p.2, there, at) (omega arith)

pub returns-clause-whole : goal.returns-clause-whole
returns-clause-whole c =
    let l = c.loop-line in
    all_ran l.line-iterator.b.rest.now l.line-iterator.a.start (machine l.state (lent_mut l.nodes l.adjoint)) c.in-None.ensures.steps (λ p. absurd (omega (arith, p.1, l.invariant.few))) (λ q. q.1.0) ∙ l.invariant.left
