-- By the listing's answer (proofs/Reported.antt).
use native.Mathlib.Omega.{arith}
use mathlib.Core.Path.{◌≡◌, sym, ap, ◌∙◌}
use borrow.Author.Rules.{rules}
use Rattle.std.specs.Prelude.{Ok, Err}
use Rattle.std.proofs.lemmas.Result.{err_from_is_err_and}
use Rattle.tape.specs.Machine.{machine, lent, lent_mut}
use Rattle.listing.specs.Outcome.{outcome}
use Rattle.session.proofs.Reported.{written_so, refused_so, few_bytes, start_ok, all_run}
use Rattle.session.proofs.run_and_list.Goals as goal

pub unwrap-tape-requires : goal.unwrap-tape-requires
unwrap-tape-requires c = start_ok c.start_recording.result c.new.result (lent_mut c.args.nodes.now c.args.adjoint.now) c.new.ensures (c.start_recording.ensures _)

pub overflow_cast-result : goal.overflow_cast-result
overflow_cast-result c =
    let written : c.list.result ≡ Ok c.in_ok-bytes.bytes = search rules in
    let M = machine c.in_ok-after.after (lent c.shared.result c.run_lines.new.adjoint) in
    let out = c.list.new.out in
    omega (arith, few_bytes c.in_ok-bytes.bytes M c.args.listing.now out (ap (λ x. (outcome x M, out)) (sym written) ∙ c.list.ensures))

pub returns-in_err-bytes-clause-number : goal.returns-in_err-bytes-clause-number
returns-in_err-bytes-clause-number c =
    let stop = c.in_err-bytes.field-0.0 in
    let refused : c.list.result ≡ Err stop.refusal = search rules in
    let at_no_line : stop.line ≡ 0 = search rules in
    let p = err_from_is_err_and c.from_residual-in_err-bytes.result c.from_residual-in_err-bytes.ensures.1 in
    let ran : c.run_lines.result ≡ Ok c.in_ok-after.after = search rules in
    let C = lent c.shared.result c.run_lines.new.adjoint in
    let M = machine c.in_ok-after.after C in
    let out = c.list.new.out in
    let B = lent_mut c.run_lines.new.nodes c.run_lines.new.adjoint in
    let A = lent_mut c.args.nodes.now c.args.adjoint.now in
    rw (p.1, p.2, at_no_line)
    (refused_so stop.refusal M c.args.listing.now out (ap (λ x. (outcome x M, out)) (sym refused) ∙ c.list.ensures)
    ∙ all_run c.args.session.now c.args.listing.now c.start_recording.result c.new.result c.unwrap-tape.result c.run_lines.result c.in_ok-after.after A B C c.new.ensures c.unwrap-tape.ensures (c.start_recording.ensures A) ran c.run_lines.ensures.whole (search rules))

pub returns-clause-number : goal.returns-clause-number
returns-clause-number c =
    let written : c.list.result ≡ Ok c.in_ok-bytes.bytes = search rules in
    let ran : c.run_lines.result ≡ Ok c.in_ok-after.after = search rules in
    let C = lent c.shared.result c.run_lines.new.adjoint in
    let M = machine c.in_ok-after.after C in
    let out = c.list.new.out in
    let B = lent_mut c.run_lines.new.nodes c.run_lines.new.adjoint in
    let A = lent_mut c.args.nodes.now c.args.adjoint.now in
    written_so c.in_ok-bytes.bytes M c.args.listing.now out (ap (λ x. (outcome x M, out)) (sym written) ∙ c.list.ensures)
    ∙ all_run c.args.session.now c.args.listing.now c.start_recording.result c.new.result c.unwrap-tape.result c.run_lines.result c.in_ok-after.after A B C c.new.ensures c.unwrap-tape.ensures (c.start_recording.ensures A) ran c.run_lines.ensures.whole (search rules)
