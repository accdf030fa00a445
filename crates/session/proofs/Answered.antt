-- Whichever reader is asked, it reads as the code does.
use Prim.Native.Nat.{ℕ, ◌≤◌, ◌<◌}
use mathlib.Core.Path.{◌≡◌, sym, ap, fun_ext, ◌∙◌}
use mathlib.Core.Bool.{cond}
use mathlib.Core.List.{List}
use borrow.Author.Tests.{lt-ltb, le-ltb}
use lib.Dec.{ltb}
use lib.ListN.{length}
use Rattle.tape.specs.Answers.{number}
use Rattle.tape.specs.declared.errors.Refusal.TheVariants.{Malformed}
use Rattle.session.specs.Lines.{Reader}
use Rattle.session.specs.Session.{lines, run_lines, started, most_session, refusal, reported, answered}
use Rattle.session.specs.Inner.{reading}
use Rattle.session.proofs.Reader.{reader, one_reader}

pub reads_alike : (R : Reader) → reading ≡ R.read
reads_alike R = fun_ext (one_reader.alone reader R)

pub overlong : (R : Reader) (session lent : List ℕ) → most_session < length session → (refusal (number Malformed) 0, lent) ≡ answered R session lent
overlong R session lent h = rw (lt-ltb most_session (length session) h)

pub in_turn : (R : Reader) (session lent : List ℕ) → length session ≤ most_session → reported (run_lines reading 1 (lines session) started) lent ≡ answered R session lent
in_turn R session lent h = ap (λ read. reported (run_lines read 1 (lines session) started) lent) (reads_alike R) ∙ sym (rw (le-ltb most_session (length session) h))

-- so any two answer alike
pub alike : (R : Reader) (session lent : List ℕ) → answered reader session lent ≡ answered R session lent
alike R session lent = ap (λ read. cond (ltb most_session (length session)) (refusal (number Malformed) 0, lent) (reported (run_lines read 1 (lines session) started) lent)) (reads_alike R)
