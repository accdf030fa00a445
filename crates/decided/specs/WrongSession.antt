-- Wrong answers that the promise of crate `session` rules out. `Tried` says what a row is; `SessionTried` is proved in
-- proofs/Session.antt, by computation.
use Rattle.std.specs.Prelude.{ℕ, ◌+◌, ◌*◌, ◌≡◌, true, List, [], ◌∷◌, ◌++◌, replicate}
use Prim.Native.String.{String}
use Rattle.text.specs.Numerals.{bytes}
use Rattle.session.specs.Session.{answered}
use Rattle.session.proofs.Reader.{reader}
use Rattle.decided.specs.Tried.{Tried, tried, ruled_out}

-- the number, and the bytes
abbrev pub an_answer : ℕ × List ℕ → ℕ × List ℕ → Tried
an_answer = tried (λ (number, out). number ∷ out)

abbrev pub ones : List ℕ
ones = replicate 30 1

abbrev pub answer : String → ℕ × List ℕ
answer session = answered reader (bytes session) ones

abbrev pub header : List ℕ
header = bytes "nodes=0 mark=0 active=1\n"

-- ingthabor_session: lines counted from 0; the header written though a later line is malformed; the last line read
-- without its line feed; an upper-case key, and a carriage return, read; an index that is the length refused 11, as a
-- handle that was never issued is; the bytes behind the listing cleared; the listing refused where it fits
abbrev pub ingthabor_session_tried : List Tried
ingthabor_session_tried =
    an_answer (answer "mark=sat\n") (9 * 16777216, ones)
    ∷ an_answer (answer "mark=set\nmark=sat\n") (9 * 16777216 + 2, header ++ replicate 6 1)
    ∷ an_answer (answer "mark=set") (24, header ++ replicate 6 1)
    ∷ an_answer (answer "Mark=set\n") (24, header ++ replicate 6 1)
    ∷ an_answer (answer "mark=set\r\n") (24, header ++ replicate 6 1)
    ∷ an_answer (answer "pass=back root=0\n") (11 * 16777216 + 1, ones)
    ∷ an_answer (answer "mark=set\n") (24, header ++ replicate 6 0)
    ∷ an_answer (answer "mark=set\n") (8 * 16777216, ones)
    ∷ []

-- none of them is the rule's answer
abbrev pub SessionTried : Type 0
SessionTried = ruled_out ingthabor_session_tried ≡ true
