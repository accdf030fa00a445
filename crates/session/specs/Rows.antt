-- Worked rows: sessions, and what any reader's answer to them is. They shut out a listing that is written before a later
-- line is refused, and lines that are nearly well formed. `EveryRow` is proved in proofs/Rows.antt, by computation.
use Rattle.std.specs.Prelude.{ℕ, ◌+◌, ◌*◌, ◌≡◌, List, [], ◌∷◌, ◌++◌, length, replicate}
use Prim.Native.String.{String}
use Rattle.text.specs.Numerals.{bytes}
use Rattle.session.specs.Lines.{Reader}
use Rattle.session.specs.Session.{answered}

abbrev pub sevens : ℕ → List ℕ
sevens n = replicate n 7

-- a session that is refused so at that line, and every lent byte stays
abbrev pub Refuses : ℕ → ℕ → List ℕ → Type 0
Refuses number line session = (R : Reader) → answered R session (sevens 300) ≡ (number * 16777216 + line, sevens 300)

-- one that lists this, and the lent bytes behind it stay
abbrev pub Lists : List ℕ → List ℕ → Type 0
Lists listed session =
    (R : Reader) → answered R session (listed ++ sevens 2) ≡ (length listed, listed ++ sevens 2)

abbrev pub Each : (List ℕ → Type 0) → List (List ℕ) → Type 0
Each P [] = Unit {0}
Each P (x ∷ xs) = P x × Each P xs

abbrev pub line_feeds : ℕ → List ℕ
line_feeds n = replicate n 10

-- ---- malformed lines

-- each of these is the only line of a session
abbrev pub malformed : List (List ℕ)
malformed =
    bytes "\n"
    ∷ bytes "mark=sat\n"
    ∷ bytes "mark=set"
    ∷ bytes "mark=set\r\n"
    ∷ bytes "mark=set \n"
    ∷ bytes " mark=set\n"
    ∷ bytes "mark=set\t\n"
    ∷ (bytes "mark=set" ++ (0 ∷ 10 ∷ []))
    ∷ (bytes "mark=set" ++ (200 ∷ 10 ∷ []))
    ∷ bytes "leaf=3FF0000000000000\n"
    ∷ bytes "leaf=3ff000000000000\n"
    ∷ bytes "leaf=3ff00000000000000\n"
    ∷ bytes "op=0 left=c3ff0000000000000\n"
    ∷ bytes "op=8 left=c3ff0000000000000\n"
    ∷ bytes "op=9 left=c3ff0000000000000 right=c3ff0000000000000\n"
    ∷ bytes "op=03 left=c3ff0000000000000 right=c3ff0000000000000\n"
    ∷ bytes "op=010 left=c3ff0000000000000\n"
    ∷ bytes "op=11 left=c3ff0000000000000\n"
    ∷ bytes "op=1 left=c3ff0000000000000\n"
    ∷ bytes "op=7 left=c3ff0000000000000 right=c3ff0000000000000\n"
    ∷ bytes "op=10 left=c3ff0000000000000 right=c3ff0000000000000\n"
    ∷ bytes "op=1  left=c3ff0000000000000 right=c3ff0000000000000\n"
    ∷ bytes "op=1 right=c3ff0000000000000 left=c3ff0000000000000\n"
    ∷ bytes "op=7 left=n00\n"
    ∷ bytes "op=7 left=n100000\n"
    ∷ bytes "op=7 left=n\n"
    ∷ bytes "op=7 left=0\n"
    ∷ bytes "pass=back root=00\n"
    ∷ bytes "pass=back root=n0\n"
    ∷ bytes "pass=back\n"
    ∷ bytes "pass=rest root=0\n"
    ∷ []

-- ---- refused at the second line, nothing written: the first has run

abbrev pub leaf_then : String → List ℕ
leaf_then line = bytes "leaf=4008000000000000\n" ++ bytes line

-- an index that is the length, the largest, and a root: 3 and never 11
abbrev pub stale : List (List ℕ)
stale =
    leaf_then "op=7 left=n1\n"
    ∷ leaf_then "op=1 left=n0 right=n99999\n"
    ∷ leaf_then "pass=tomark root=1\n"
    ∷ []

-- no last line feed; and 9 before 3 within one line
abbrev pub second_malformed : List (List ℕ)
second_malformed = leaf_then "op=7 left=n0" ∷ leaf_then "op=1 left=n5 right=n\n" ∷ []

-- ---- answered

abbrev pub empty_listed : List ℕ
empty_listed = bytes "nodes=0 mark=0 active=1\n"

-- a NaN's pattern is a number, and is listed as any NaN is; the left operand of a tie has partial 1
abbrev pub tie : List ℕ
tie =
    bytes "leaf=fff0000000000001\n"
    ++ bytes "leaf=c008000000000000\n"
    ++ bytes "op=5 left=n1 right=cc008000000000000\n"
    ++ bytes "mark=set\n"
    ++ bytes "pass=back root=2\n"

abbrev pub tie_listed : List ℕ
tie_listed =
    bytes "nodes=3 mark=3 active=1\n"
    ++ bytes "node=0 val=7ff8000000000000 adj=0000000000000000\n"
    ++ bytes "node=1 val=c008000000000000 adj=3ff0000000000000\n"
    ++ bytes "node=2 val=c008000000000000 adj=3ff0000000000000\n"

-- document 01's printed example
abbrev pub printed : List ℕ
printed =
    bytes "leaf=4008000000000000\n"
    ++ bytes "leaf=4000000000000000\n"
    ++ bytes "op=3 left=n0 right=n1\n"
    ++ bytes "op=1 left=n2 right=n0\n"
    ++ bytes "pass=back root=3\n"

abbrev pub printed_listed : List ℕ
printed_listed =
    bytes "nodes=4 mark=0 active=1\n"
    ++ bytes "node=0 val=4008000000000000 adj=4008000000000000\n"
    ++ bytes "node=1 val=4000000000000000 adj=4008000000000000\n"
    ++ bytes "node=2 val=4018000000000000 adj=3ff0000000000000\n"
    ++ bytes "node=3 val=4022000000000000 adj=3ff0000000000000\n"

-- every form of line. A leaf is rewound; 4 and its root are marked; past the mark stand half the root, 1 less that, and
-- its negative; the adjoints of a pass to the mark are cleared; the root's half is passed to the mark, and 4 with it to
-- the start; what is past the mark is rewound, and the rest passed on. Then the mark is taken off, and more recorded
abbrev pub every_form : List ℕ
every_form =
    bytes "leaf=3ff0000000000000\nrewind=init\n"
    ++ bytes "leaf=4010000000000000\nop=10 left=n0\nmark=set\n"
    ++ bytes "op=4 left=n1 right=c4000000000000000\nop=2 left=c3ff0000000000000 right=n2\nop=7 left=n3\n"
    ++ bytes "pass=tomark root=4\nclear=adj\npass=tomark root=2\npass=tostart root=0\n"
    ++ bytes "op=6 left=n1 right=n0\nrewind=mark\npass=rest\nop=7 left=n1\nmark=reset\n"
    ++ bytes "op=2 left=n0 right=c3ff0000000000000\nop=4 left=n1 right=n0\nop=6 left=n0 right=n1\n"

abbrev pub every_form_listed : List ℕ
every_form_listed =
    bytes "nodes=6 mark=0 active=1\n"
    ++ bytes "node=0 val=4010000000000000 adj=3ff4000000000000\n"
    ++ bytes "node=1 val=4000000000000000 adj=3fe0000000000000\n"
    ++ bytes "node=2 val=c000000000000000 adj=0000000000000000\n"
    ++ bytes "node=3 val=4008000000000000 adj=0000000000000000\n"
    ++ bytes "node=4 val=3fe0000000000000 adj=0000000000000000\n"
    ++ bytes "node=5 val=4000000000000000 adj=0000000000000000\n"

pub record EveryRow : Type 0 where
  pub malformed : Each (Refuses 9 1) malformed
  pub stale : Each (Refuses 3 2) stale
  -- a node that a rewind dropped
  pub rewound : Refuses 3 3 (leaf_then "rewind=init\nop=10 left=n0\n")
  pub second_malformed : Each (Refuses 9 2) second_malformed
  -- 65,536 bytes are read, and the first line feed is an empty line; a byte more, and no line is
  pub all_read : Refuses 9 1 (line_feeds 65536)
  pub overlong : Refuses 9 0 (line_feeds 65537)
  pub empty : Lists empty_listed []
  pub tie : Lists tie_listed tie
  pub printed : Lists printed_listed printed
  pub every_form : Lists every_form_listed every_form
  -- a refused line is told before 8; and a byte too few for the header
  pub refused_first : (R : Reader) → answered R (bytes "mark=sat\n") [] ≡ (9 * 16777216 + 1, [])
  pub no_room : (R : Reader) → answered R [] (sevens 23) ≡ (8 * 16777216, sevens 23)
