-- The call that the line names, once its indexes stand (proofs/Made.antt).
use mathlib.Core.Path.{◌≡◌, sym, ap, ◌∙◌}
use mathlib.Core.Bool.{true}
use borrow.Author.Rules.{rules}
use Rattle.tape.specs.Machine.{machine, lent_mut}
use Rattle.tape.specs.Steps.{step}
use Rattle.session.specs.Inner.{line_stands, told}
use Rattle.session.proofs.Made.{standing}
use Rattle.session.proofs.running.run_line.Goals as goal

pub returns-clause-step : goal.returns-clause-step
returns-clause-step c =
    let M = machine c.args.tape.now (lent_mut c.args.nodes.now c.args.adjoint.now) in
    let e : line_stands M.state.length c.args.line ≡ true = search rules in
    c.make.ensures.step ∙ ap (λ k. told (step k M)) (c.call_of.ensures c.args.tape.now c.args.adjoint.now) ∙ standing M c.args.line e
