-- By computation, with the reader that computes.
use Prim.Native.Nat.{ℕ, ◌+◌, ◌*◌}
use mathlib.Core.Path.{◌≡◌, refl, sym, ◌∙◌}
use mathlib.Core.List.{List, [], ◌∷◌, ◌++◌}
use lib.Ieee.{lt, le, mul, add, sub, div, round, of_bits, to_bits}
use lib.ListN.{length}
use Rattle.root.specs.Value.{root}
use Rattle.text.specs.Numerals.{bytes}
use Rattle.tape.specs.Steps.{step}
use Rattle.session.specs.Session.{answered}
use Rattle.session.specs.Rows as rows
use Rattle.session.specs.Rows.{sevens, line_feeds, Refuses, Lists, Each, EveryRow}
use Rattle.session.proofs.Reader.{reader}
use Rattle.session.proofs.Answered.{alike}

refuses : (number line : ℕ) (session : List ℕ) → answered reader session (sevens 300) ≡ (number * 16777216 + line, sevens 300) → Refuses number line session
refuses number line session e R = sym (alike R session (sevens 300)) ∙ e

lists : (listed session : List ℕ) → answered reader session (listed ++ sevens 2) ≡ (length listed, listed ++ sevens 2) → Lists listed session
lists listed session e R = sym (alike R session (listed ++ sevens 2)) ∙ e

-- the same of a list of them
abbrev Computed : ℕ → ℕ → List (List ℕ) → Type 0
Computed number line [] = Unit {0}
Computed number line (session ∷ sessions) = (answered reader session (sevens 300) ≡ (number * 16777216 + line, sevens 300)) × Computed number line sessions

each : (number line : ℕ) (sessions : List (List ℕ)) → Computed number line sessions → Each (Refuses number line) sessions
each number line [] es = tt
each number line (session ∷ sessions) (e, es) = (refuses number line session e, each number line sessions es)

malformed : Each (Refuses 9 1) rows.malformed
malformed = each 9 1 rows.malformed (refl, (refl, (refl, (refl, (refl, (refl, (refl, (refl, (refl, (refl, (refl, (refl, (refl, (refl, (refl, (refl, (refl, (refl, (refl, (refl, (refl, (refl, (refl, (refl, (refl, (refl, (refl, (refl, (refl, (refl, (refl, tt)))))))))))))))))))))))))))))))

stale : Each (Refuses 3 2) rows.stale
unfolding step of_bits
stale = each 3 2 rows.stale (refl, (refl, (refl, tt)))

second_malformed : Each (Refuses 9 2) rows.second_malformed
unfolding step of_bits
second_malformed = each 9 2 rows.second_malformed (refl, (refl, tt))

tie : Lists rows.tie_listed rows.tie
unfolding step lt le mul add of_bits to_bits
tie = lists rows.tie_listed rows.tie refl

empty : Lists rows.empty_listed []
unfolding step
empty = lists rows.empty_listed [] refl

rewound : Refuses 3 3 (rows.leaf_then "rewind=init\nop=10 left=n0\n")
unfolding step of_bits
rewound = refuses 3 3 (rows.leaf_then "rewind=init\nop=10 left=n0\n") refl

printed : Lists rows.printed_listed rows.printed
unfolding step mul add of_bits to_bits
printed = lists rows.printed_listed rows.printed refl

every_form : Lists rows.every_form_listed rows.every_form
unfolding step root round lt le mul add sub div of_bits to_bits
every_form = lists rows.every_form_listed rows.every_form refl

pub every_row : EveryRow
unfolding step
every_row = record {
  malformed = malformed;
  stale = stale;
  rewound = rewound;
  second_malformed = second_malformed;
  all_read = refuses 9 1 (line_feeds 65536) refl;
  overlong = refuses 9 0 (line_feeds 65537) refl;
  empty = empty;
  tie = tie;
  printed = printed;
  every_form = every_form;
  refused_first = λ R. sym (alike R (bytes "mark=sat\n") []) ∙ refl;
  no_room = λ R. sym (alike R [] (sevens 23)) ∙ refl;
}
