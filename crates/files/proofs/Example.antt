-- The example file: its lines are read back, and then the machine is computed.
use Prim.Native.Nat.{ℕ, ◌≤◌}
use native.Mathlib.Omega.{arith}
use mathlib.Core.Path.{◌≡◌, refl, sym, ap, subst, ◌∙◌}
use mathlib.Core.List.{List, ◌++◌}
use mathlib.Core.Option.{Option, none, some, some-injective}
use lib.Ieee.{of_int, of_bits, to_bits, add, sub, mul, div, neg, lt, le}
use lib.ListN.{length, drop}
use Rattle.tape.specs.Numbers.{floats}
use Rattle.tape.specs.Machine.{Machine}
use Rattle.tape.specs.Listing.{listing}
use Rattle.tape.specs.Steps.{step}
use Rattle.tape.proofs.Steps.{not_some}
use Rattle.session.specs.Lines.{Line}
use Rattle.session.specs.Session.{Outcome, ended, stopped, started, most_session}
use Rattle.files.specs.Summed.{file_lines, file, AllWithin}
use Rattle.files.specs.Example.{three_listed, swapped_listed, three_session, swapped_session, Lists, Example}
use Rattle.files.proofs.Refused.{lists_so}
use Rattle.files.proofs.Texts.{run_all, file_runs}

-- what a run leaves to be listed
abbrev shown : Outcome → Option (List ℕ)
shown (ended M) = some (listing M)
shown (stopped number line) = none

left : (r : Outcome) (text : List ℕ) → shown r ≡ some text → (M : Machine floats) × (r ≡ ended M) × (listing M ≡ text)
left (ended M) text e = (M, refl, some-injective _ _ e)
left (stopped number line) text e = not_some (sym e)

lists : (ls : List Line) (text : List ℕ) → AllWithin ls → length (file ls) ≤ most_session → shown (run_all 1 ls started) ≡ some text → Lists (file ls) text
lists ls text within short runs R lent room =
    let (M, e, same) = left (run_all 1 ls started) text runs in
    lists_so R (file ls) lent M short (file_runs R ls within ∙ e) (subst (λ t. length t ≤ length lent) (sym same) room)
    ∙ ap (λ t. (length t, t ++ drop (length t) lent)) same

pub example : Example
unfolding step add sub mul div neg lt le of_int of_bits to_bits
example = record {
  three_lists = lists (file_lines three_session) three_listed (omega arith) (omega arith) refl;
  three_file = refl;
  three_long = refl;
  swapped_lists = lists (file_lines swapped_session) swapped_listed (omega arith) (omega arith) refl;
  swapped_file = refl;
  swapped_long = refl;
}
