-- Whichever reader is asked (proofs/Answered.antt).
use mathlib.Core.Path.{ap, ◌∙◌}
use Rattle.session.proofs.Answered.{in_turn}
use Rattle.session.proofs.ingthabor_session.Goals as goal

pub returns-in-Ok : goal.returns-in-Ok
returns-in-Ok c R = c.in-Ok.ensures.number ∙ in_turn R c.args.session.now c.args.listing.now c.if-session-gt-MOST_SESSION.false

pub returns-in-Err : goal.returns-in-Err
returns-in-Err c R =
    ap (λ n. (n, c.run_and_list.new.listing)) c.number_of-in-Err.ensures
    ∙ c.in-Err.ensures.number
    ∙ in_turn R c.args.session.now c.args.listing.now c.if-session-gt-MOST_SESSION.false
