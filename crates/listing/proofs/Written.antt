-- What `listed` comes to: at either refusal, and where the listing fits and was written.
use Prim.Native.Nat.{ℕ, ◌+◌, ◌≤◌, ◌<◌}
use native.Mathlib.Nat.{zero-add}
use native.Mathlib.Omega.{arith}
use mathlib.Core.Path.{◌≡◌, ap, ◌∙◌}
use mathlib.Core.Option.{none}
use mathlib.Core.List.{List, ◌++◌}
use borrow.Author.Tests.{lt-ltb, le-ltb}
use lib.ListN.{length, drop, length-append}
use lib.Seq.{sets, sets-eq}
use Rattle.tape.specs.Numbers.{floats}
use Rattle.tape.specs.Machine.{Machine}
use Rattle.tape.specs.Walk.{indexes}
use Rattle.tape.specs.Listing.{header, lines, listing}
use Rattle.tape.specs.Answers.{refused, counted}
use Rattle.tape.specs.Admission.{lengths, admission, admitted, let_in}
use Rattle.tape.specs.Steps.{step}
use Rattle.tape.specs.declared.errors.Refusal.{Refusal}
use Rattle.tape.specs.declared.errors.Refusal.TheVariants.{ListingTooLong}
use Rattle.tape.specs.declared.admission.Caller.TheVariants as caller
use Rattle.tape.specs.declared.admission.Lengths.{Lengths}
use Rattle.tape.proofs.OneToOne.{not_nought}
use Rattle.tape.proofs.Steps.{is_granted, is_refused}
use Rattle.std.specs.Prelude.{Result, Ok, Err}
use Rattle.listing.specs.Outcome.{listed}
use Rattle.text.specs.Inner.{Wrote}
use Rattle.text.proofs.Stores.{then}

-- what the admission answers, told the lengths of the machine's arrays
module _ (M : Machine floats) (n : Lengths) (x : Result (Unit {0}) Refusal) (asked : x ≡ admitted (admission caller.Listing n M.state)) (told : n ≡ lengths M.lent) where
  answered : x ≡ admitted (let_in caller.Listing M)
  answered = asked ∙ ap (λ n. admitted (admission caller.Listing n M.state)) told

  pub granted : x ≡ Ok tt → let_in caller.Listing M ≡ none
  granted = is_granted x (let_in caller.Listing M) answered

  pub turned : (lent : List ℕ) (r : Refusal) → x ≡ Err r → ((refused r, M), lent) ≡ listed M lent
  unfolding step
  turned lent r e = rw (is_refused x (let_in caller.Listing M) r answered e, not_nought r)

module _ (M : Machine floats) (lent : List ℕ) where
  pub too_long : let_in caller.Listing M ≡ none → length lent < length (listing M) → ((refused ListingTooLong, M), lent) ≡ listed M lent
  unfolding step
  too_long e h = rw (e, lt-ltb _ _ h)

  abbrev all_lines : List ℕ
  all_lines = lines M.lent (indexes 0 M.state.length)

  pub both_fit : length (listing M) ≤ length lent → length (header M.state) + length all_lines ≤ length lent
  both_fit h = omega (arith, length-append (header M.state) all_lines)

  front : (after : List ℕ) → length (listing M) ≤ length lent → after ≡ sets lent 0 (listing M) → after ≡ listing M ++ drop (length (listing M)) lent
  front after h e = e ∙ sets-eq (listing M) lent 0 (rw zero-add h) ∙ rw zero-add

  pub written : {middle after : List ℕ} {k n : ℕ} → let_in caller.Listing M ≡ none → length (listing M) ≤ length lent → Wrote lent 0 (header M.state) middle k → Wrote middle k all_lines after n
      → ((counted n, M), after) ≡ listed M lent
  unfolding step
  written {after = after} {n = n} e h v w =
      let whole : Wrote lent 0 (listing M) after n = then v w in
      let count : n ≡ length (listing M) = whole.behind ∙ zero-add (length (listing M)) in
      rw (e, le-ltb _ _ h, count, front after h whole.bytes)
