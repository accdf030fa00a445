-- What an answer says can be read back from its number, value and count, and what it leaves is there whole.
use Prim.Native.Nat.{ℕ}
use mathlib.Core.Path.{◌≡◌, refl, sym, ap, ◌∙◌}
use mathlib.Core.List.{[], ◌∷◌}
use lib.Ieee.{Float}
use lib.ListN.{get_or}
use Rattle.std.specs.Prelude.{Option, None, Some, Result, Ok, Err, OnErr}
use Rattle.tape.specs.Numbers.{floats}
use Rattle.tape.specs.Machine.{Arrays, Machine}
use Rattle.tape.specs.Answers.{Answer}
use Rattle.tape.specs.declared.errors.Refusal.{Refusal}
use Rattle.tape.specs.declared.node.Lookup.{Lookup}
use Rattle.tape.specs.declared.node.Lookup.TheVariants.{Live, Stale, NeverIssued}
use Rattle.tape.specs.declared.tape.Tape.{Tape}
use Rattle.tape.proofs.OneToOne.{by_number, at_refusal, never_nought}
use Rattle.dual.specs.Outcome.{read_outcome, liveness_outcome, cleared_outcome, pass_outcome, sliced_outcome, OneToOne}
use Rattle.dual.specs.declared.slicing.Sliced.{Sliced}

-- a map that can be read back, and that leaves the machine as it is given, is one to one
read_back : {X : Type 0} (tell : X → Machine floats → Answer floats × Machine floats) (meant : Answer floats → X) → ((x : X) (M : Machine floats) → meant (tell x M).0 ≡ x) → ((x : X) (M : Machine floats) → (tell x M).1 ≡ M)
    → (x y : X) (M K : Machine floats) → tell x M ≡ tell y K → (x ≡ y) × (M ≡ K)
read_back tell meant back left x y M K e = (sym (back x M) ∙ ap (λ o. meant o.0) e ∙ back y K, sym (left x M) ∙ ap (λ o. o.1) e ∙ left y K)

-- the refusal that has the answer's number, and x where none has
abbrev refused_or : {X : Type 0} → X → ℕ → Result X Refusal
refused_or x k = by_number (Ok x) Err k

reads_back : (x : Result Float Refusal) (M : Machine floats) → refused_or (read_outcome x M).0.value (read_outcome x M).0.number ≡ x
reads_back (Ok v) M = refl
reads_back (Err r) M = at_refusal _ Err r

reads_left : (x : Result Float Refusal) (M : Machine floats) → (read_outcome x M).1 ≡ M
reads_left (Ok v) M = refl
reads_left (Err r) M = refl

abbrev of_count : ℕ → Option Lookup
of_count k = get_or (None ∷ Some Live ∷ Some Stale ∷ []) k (Some NeverIssued)

liveness_back : (x : Result (Option Lookup) Refusal) (M : Machine floats) → refused_or (of_count (liveness_outcome x M).0.count) (liveness_outcome x M).0.number ≡ x
liveness_back (Ok None) M = refl
liveness_back (Ok (Some Live)) M = refl
liveness_back (Ok (Some Stale)) M = refl
liveness_back (Ok (Some NeverIssued)) M = refl
liveness_back (Err r) M = at_refusal _ Err r

liveness_left : (x : Result (Option Lookup) Refusal) (M : Machine floats) → (liveness_outcome x M).1 ≡ M
liveness_left (Ok None) M = refl
liveness_left (Ok (Some l)) M = refl
liveness_left (Err r) M = refl

cleared_back : (x : Result (Unit {0}) Refusal) (M : Machine floats) → refused_or tt (cleared_outcome x M).0.number ≡ x
cleared_back (Ok tt) M = refl
cleared_back (Err r) M = at_refusal _ Err r

cleared_left : (x : Result (Unit {0}) Refusal) (M : Machine floats) → (cleared_outcome x M).1 ≡ M
cleared_left (Ok tt) M = refl
cleared_left (Err r) M = refl

passes_back : (x : Result ℕ Refusal) (M : Machine floats) → refused_or (pass_outcome x M).0.count (pass_outcome x M).0.number ≡ x
passes_back (Ok visited) M = refl
passes_back (Err r) M = at_refusal _ Err r

passes_left : (x : Result ℕ Refusal) (M : Machine floats) → (pass_outcome x M).1 ≡ M
passes_left (Ok visited) M = refl
passes_left (Err r) M = refl

-- an opening or a slice hands back the state besides
abbrev sliced_meant : Answer floats × Machine floats → Result Sliced Refusal
sliced_meant (a, M) = refused_or (record { visited = a.count; left = a.left; tape = M.state }) a.number

sliced_back : (x : Result Sliced Refusal) (t : Tape) (A : Arrays floats) → (sliced_meant (sliced_outcome x t A) ≡ x) × ((sliced_outcome x t A).1.lent ≡ A)
sliced_back (Ok s) t A = (refl, refl)
sliced_back (Err r) t A = (at_refusal _ Err r, refl)

-- and a refusal leaves the state
left_alike : (x y : Result Sliced Refusal) (t u : Tape) (A B : Arrays floats) → sliced_outcome x t A ≡ sliced_outcome y u B → OnErr x (t ≡ u)
left_alike (Ok s) y t u A B e = tt
left_alike (Err r) (Ok s) t u A B e = absurd (never_nought r (ap (λ o. o.0.number) e))
left_alike (Err r) (Err s) t u A B e = ap (λ o. o.1.state) e

pub one_to_one : OneToOne
one_to_one = record {
  read_outcome = read_back read_outcome (λ a. refused_or a.value a.number) reads_back reads_left;
  liveness_outcome = read_back liveness_outcome (λ a. refused_or (of_count a.count) a.number) liveness_back liveness_left;
  cleared_outcome = read_back cleared_outcome (λ a. refused_or tt a.number) cleared_back cleared_left;
  pass_outcome = read_back pass_outcome (λ a. refused_or a.count a.number) passes_back passes_left;
  sliced_outcome = λ x y t u A B e. (sym (sliced_back x t A).0 ∙ ap sliced_meant e ∙ (sliced_back y u B).0, sym (sliced_back x t A).1 ∙ ap (λ o. o.1.lent) e ∙ (sliced_back y u B).1, left_alike x y t u A B e);
}
