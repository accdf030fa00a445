-- `root::Wide::whole_root` meets its contract. Assumes nothing.
use native.Mathlib.Nat.{lt_of_le_of_lt}
use lib.Dec.{lit<}
use Rattle.root.proofs.Halves.{divided, rest_lt, bounds, lowered, square_small}
use Rattle.root.proofs.Wide.whole_root.Goals as goal

pub overflow_mul-q-2 : goal.overflow_mul-q-2
overflow_mul-q-2 c =
    let w = c.args.self in
    let h = c.half_root-a in
    let all = bounds w.m h.result h.ensures.0 h.ensures.1 w.at_least w.below in
    record { fits = lt_of_le_of_lt (square_small _ 0x800_0000 all.3) (lit< tt) }

pub returns-then-u-q : goal.returns-then-u-q
returns-then-u-q c =
    let w = c.args.self in
    let h = c.half_root-a in
    lowered w.m h.result h.ensures.0 h.ensures.1 w.at_least w.below _ _
    (divided w.m h.result h.ensures.0 h.ensures.1 w.at_least w.below)
    (rest_lt w.m h.result h.ensures.0 h.ensures.1 w.at_least w.below)
    c.if-u-q.true
