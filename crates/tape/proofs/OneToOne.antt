-- What an answer says can be read back from its number and the state.
use Prim.Native.Nat.{ℕ}
use mathlib.Core.Path.{◌≡◌, refl, sym, ap, ◌∙◌}
use mathlib.Core.Bool.{false, cond}
use native.Mathlib.Omega.{arith}
use borrow.Author.Tests.{ne_eqb}
use mathlib.Core.List.{List, [], ◌∷◌}
use lib.Dec.{eqb}
use Rattle.tape.specs.Numbers.{floats}
use Rattle.tape.specs.Machine.{Arrays}
use Rattle.tape.specs.Answers.{number, outcome, OneToOne}
use Rattle.tape.specs.declared.errors.Refusal.{Refusal}
use Rattle.tape.specs.declared.errors.Refusal.TheVariants.{Misshapen, UnknownOperation, Stale, Detached, Full, SerialsSpent, UnsoundEdge, ListingTooLong, Malformed, NeverIssued, OutOfTurn, UnfitSlice}
use Rattle.std.specs.Prelude.{Result, Ok, Err, OnErr}
use Rattle.tape.specs.declared.tape.Tape.{Tape}

abbrev every_refusal : List Refusal
every_refusal = Misshapen ∷ UnknownOperation ∷ Stale ∷ Detached ∷ Full ∷ SerialsSpent ∷ UnsoundEdge ∷ ListingTooLong ∷ Malformed ∷ NeverIssued ∷ OutOfTurn ∷ UnfitSlice ∷ []

abbrev among : {A : Type 0} → List Refusal → A → (Refusal → A) → ℕ → A
among [] x f k = x
among (r ∷ rs) x f k = cond (eqb (number r) k) (f r) (among rs x f k)

-- f of the refusal that has the number, and x where none has
abbrev pub by_number : {A : Type 0} → A → (Refusal → A) → ℕ → A
by_number x f k = among every_refusal x f k

pub at_refusal : {A : Type 0} (x : A) (f : Refusal → A) (r : Refusal) → by_number x f (number r) ≡ f r
at_refusal x f Misshapen = refl
at_refusal x f UnknownOperation = refl
at_refusal x f Stale = refl
at_refusal x f Detached = refl
at_refusal x f Full = refl
at_refusal x f SerialsSpent = refl
at_refusal x f UnsoundEdge = refl
at_refusal x f ListingTooLong = refl
at_refusal x f Malformed = refl
at_refusal x f NeverIssued = refl
at_refusal x f OutOfTurn = refl
at_refusal x f UnfitSlice = refl

-- no refusal has number 0
pub never_nought : (r : Refusal) → number r ≡ 0 → ⊥
never_nought r e = let z : ◌≡◌ {A = ℕ} 0 1 = sym (at_refusal 1 (λ _. 0) r) ∙ ap (by_number 1 (λ _. 0)) e in omega arith

pub not_nought : (r : Refusal) → eqb (number r) 0 ≡ false
not_nought r = ne_eqb (number r) 0 (never_nought r)

abbrev meant : ℕ → Tape → Result Tape Refusal
meant k t = by_number (Ok t) Err k

read_back : (x : Result Tape Refusal) (t : Tape) (A : Arrays floats) → meant (outcome x t A).0.number (outcome x t A).1.state ≡ x
read_back (Ok after) t A = refl
read_back (Err r) t A = at_refusal (Ok t) Err r

-- a refusal leaves the state
left_alike : (x y : Result Tape Refusal) (t u : Tape) (A : Arrays floats) → outcome x t A ≡ outcome y u A → OnErr x (t ≡ u)
left_alike (Ok after) y t u A e = tt
left_alike (Err r) (Ok after) t u A e = absurd (never_nought r (ap (λ o. o.0.number) e))
left_alike (Err r) (Err s) t u A e = ap (λ o. o.1.state) e

pub one_to_one : OneToOne
one_to_one = record {
  numbers = λ r s e. sym (at_refusal Misshapen (λ q. q) r) ∙ ap (by_number Misshapen (λ q. q)) e ∙ at_refusal Misshapen (λ q. q) s;
  moves = λ x y t u A e. (sym (read_back x t A) ∙ ap (λ o. meant o.0.number o.1.state) e ∙ read_back y u A, left_alike x y t u A e);
}
