-- The two counts, compared with half.
use Rattle.std.proofs.Common.{◌≡◌, ◌∙◌, ℕ, ◌&&◌, List, length, count_by, nat_lt, nat_le, lt-ltb, le-ltb, rules}
use Rattle.track.specs.Index.{half, middle, below, at_most}
use Rattle.track.proofs.Totals.{counted}
use Rattle.track.proofs.index.is_middle.Goals.{Then-below-half, Else-below-half}
use Rattle.track.proofs.index.is_middle.Goals as goal

by_counts : (xs : List ℕ) (time b a : ℕ) → b ≡ count_by (λ x. nat_lt x time) xs → a ≡ count_by (λ x. nat_le x time) xs
    → (nat_lt b (half (length xs)) && nat_le (half (length xs)) a) ≡ middle xs time
unfolding middle below at_most
by_counts xs time b a e f = rw (e ∙ counted (λ x. nat_lt x time) xs, f ∙ counted (λ x. nat_le x time) xs)

pub returns-then-below-half : goal.returns-then-below-half
returns-then-below-half c =
    rw (lt-ltb _ _ c.if-below-half.true) at (by_counts c.args.times.now c.args.time c.count-below.result c.count-at_most.result (search rules) (search rules))

pub returns-else-below-half : goal.returns-else-below-half
returns-else-below-half c =
    rw (le-ltb _ _ c.if-below-half.false) (rw (le-ltb _ _ c.if-below-half.false) at (by_counts c.args.times.now c.args.time c.count-below.result c.count-at_most.result (search rules) (search rules)))
