-- What stands before the line feed.
use Prim.Native.Nat.{◌-◌}
use mathlib.Core.Path.{◌≡◌, sym, ap, ◌∙◌}
use lib.ListN.{length, take}
use borrow.Author.Rules.{rules}
use Rattle.std.specs.Prelude.{Some}
use Rattle.session.specs.Inner.{words, read_line}
use Rattle.session.proofs.reading.read_line.Goals as goal

pub returns : goal.returns
returns c =
    let line = c.args.line.now in
    let found : c.strip_suffix.result ≡ Some c.in_ok-text.text = search rules in
    let (feed, text, _) = rw found at c.strip_suffix.ensures.cases in
    let read : read_line line ≡ words (take (length line - 1) line) = rw feed in
    c.read_words.ensures ∙ ap words text ∙ sym read
