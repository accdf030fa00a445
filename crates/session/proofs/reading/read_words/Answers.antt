-- The first word goes up to the first space.
use mathlib.Core.Path.{◌≡◌, sym, ap, ◌∙◌}
use mathlib.Core.Bool.{false}
use lib.Dec.{eqb}
use lib.ListN.{length, drop}
use Rattle.session.specs.Inner.{find, operation, words_as}
use Rattle.session.proofs.reading.read_words.Goals as goal

pub returns-in-Some : goal.returns-in-Some
returns-in-Some c =
    let text = c.args.text.now in
    let first = c.cut_at.result.0.now in
    let rest = c.cut_at.result.1.now in
    let (starts, number, _) = c.in-Some.ensures.cases in
    let some : eqb (length rest) 0 ≡ false = sym c.is_empty.ensures ∙ c.if-is_empty.false in
    let read : words_as first rest ≡ operation (drop 3 first) rest = rw (some, starts) in
    c.read_operation.ensures
    ∙ ap (λ n. operation n rest) number
    ∙ sym read
    ∙ ap (λ r. words_as first r) c.cut_at.ensures.back
    ∙ ap (λ f. words_as f (drop (find 32 text) text)) c.cut_at.ensures.front
