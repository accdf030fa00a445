-- Worked rows: a leaf that is no number, listed into bytes that hold nothing but ones. They shut out a listing that
-- writes before it knows that all of it fits.
-- `EveryRow` is proved in proofs/Rows.antt, by computation.
use Rattle.std.specs.Prelude.{ℕ, ◌≡◌, true, List, [], ◌∷◌, ◌++◌, replicate}
use Rattle.std.specs.Float.{nan}
use Rattle.tape.specs.Numbers.{floats}
use Rattle.tape.specs.Machine.{Machine, machine, state}
use Rattle.text.specs.Numerals.{bytes}
use Rattle.tape.specs.Answers.{Answer, refused, counted}
use Rattle.tape.specs.Calls.{move, start}
use Rattle.tape.specs.Kept.{fresh, after}
use Rattle.tape.specs.Rows.{sevens, leaf}
use Rattle.tape.specs.declared.errors.Refusal.TheVariants.{Misshapen, ListingTooLong}
use Rattle.listing.specs.Outcome.{listed}

pub record Row : Type 0 where
  pub before : Machine floats
  pub lent : List ℕ
  pub answer : Answer floats
  pub lent_after : List ℕ

abbrev pub Holds : Row → Type 0
Holds r = listed r.before r.lent ≡ ((r.answer, r.before), r.lent_after)

abbrev pub one_leaf : Machine floats
one_leaf = after (move start ∷ leaf nan ∷ []) (fresh (sevens 1))

-- 73 bytes
abbrev pub its_listing : List ℕ
its_listing = bytes "nodes=1 mark=0 active=1\nnode=0 val=7ff8000000000000 adj=0000000000000000\n"

abbrev pub ones : ℕ → List ℕ
ones n = replicate n 1

-- a byte too few: refused, and every byte stays
abbrev pub too_few : Row
too_few = record { before = one_leaf; lent = ones 72; answer = refused ListingTooLong; lent_after = ones 72 }

-- two bytes more: they stay
abbrev pub two_more : Row
two_more = record { before = one_leaf; lent = ones 75; answer = counted 73; lent_after = its_listing ++ ones 2 }

-- a mark past the length: refused, and every byte stays, of which there would be enough
abbrev pub mark_past_length : Row
mark_past_length =
    record { before = machine (state 1 2 true 2) one_leaf.lent; lent = ones 75; answer = refused Misshapen; lent_after = ones 75 }

abbrev pub EveryRow : Type 0
EveryRow = Holds too_few × Holds two_more × Holds mark_past_length
