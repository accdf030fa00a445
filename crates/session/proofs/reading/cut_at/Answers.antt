-- The first such byte, or the end.
use mathlib.Core.Path.{ap, ◌∙◌}
use lib.ListN.{length, take, drop}
use Rattle.std.specs.Prelude.{unwrap_or}
use Rattle.session.proofs.Scans.{first_or_length}
use Rattle.session.proofs.reading.cut_at.Goals as goal

pub returns-clause-front : goal.returns-clause-front
returns-clause-front c =
    let text = c.args.text.now in
    c.split_at.ensures.front ∙ ap (λ end. take end text) (c.unwrap_or-end.ensures ∙ ap (λ p. unwrap_or p (length text)) c.first_at.ensures ∙ first_or_length c.args.byte text)

pub returns-clause-back : goal.returns-clause-back
returns-clause-back c =
    let text = c.args.text.now in
    c.split_at.ensures.back ∙ ap (λ end. drop end text) (c.unwrap_or-end.ensures ∙ ap (λ p. unwrap_or p (length text)) c.first_at.ensures ∙ first_or_length c.args.byte text)
