-- The example session: both sides are computed.
use Prim.Native.Nat.{ℕ, zero, suc}
use native.Mathlib.Omega.{arith}
use mathlib.Core.Path.{◌≡◌, refl, sym, ap, ◌∙◌}
use mathlib.Core.Bool.{true, true≢false, and-eq-true_iff}
use mathlib.Core.List.{List, [], ◌∷◌, map}
use borrow.Author.Tests.{eqb-true}
use lib.Dec.{eqb}
use lib.Ieee.{Float, of_int, of_bits, to_bits, add, sub, mul, div, neg, lt, le}
use lib.ListN.{get_or}
use Rattle.tape.specs.Numbers.{Numbers}
use Rattle.tape.specs.Machine.{all}
use Rattle.tape.specs.Answers.{Answer}
use Rattle.tape.specs.Steps.{step, run}
use Rattle.tape.specs.Passes.{Unrefused}
use Rattle.revolutions.specs.Revolutions.{resolve, calls}
use Rattle.revolutions.specs.Examples.{three, three_calls, before, swapped, first_only, in_recording_order, idle, bits, Example, Overlapping, ApartHere, Cut, all_cut, walking, unfinished, InSlices}

-- two lists whose first numbers have other bits
unlike : (xs ys : List Float) (k l : ℕ) → get_or (bits xs) 0 0 ≡ k → get_or (bits ys) 0 0 ≡ l → ¬ (k ≡ l) → ¬ (xs ≡ ys)
unlike xs ys k l x y other e = other (sym x ∙ ap (λ zs. get_or (bits zs) 0 0) e ∙ y)

-- each number is 0
none_refused : {N : Numbers} (answers : List (Answer N)) → all (map (λ a. eqb a.number 0) answers) ≡ true → Unrefused answers
none_refused [] e = tt
none_refused (a ∷ rest) e = let both = (and-eq-true_iff (eqb a.number 0) _).0 e in (eqb-true _ _ both.0, none_refused rest both.1)

pub example : Example
unfolding step add sub mul div neg lt le of_int of_bits to_bits
example = record {
  runs = record { session = refl; unrefused = none_refused (run three_calls before).0 refl; over = refl; roots = (omega arith, (omega arith, (omega arith, tt))) };
  adjoints = refl;
  long = refl;
  not_first_only = unlike _ (first_only (resolve three)) _ _ refl refl (λ e. omega arith);
  not_in_recording_order = unlike _ (in_recording_order (resolve three)) _ _ refl refl (λ e. omega arith);
  not_idle = unlike _ (idle (resolve three)) _ _ refl refl (λ e. omega arith);
}

pub overlapping : Overlapping
unfolding step add sub mul div neg lt le of_int of_bits to_bits
overlapping = record { runs = record { session = refl; unrefused = none_refused (run (calls swapped) before).0 refl; over = refl; roots = (omega arith, (omega arith, (omega arith, tt))) }; adjoints = refl; resolves = refl; swapped_resolves = refl; changed = unlike _ _ _ _ refl refl (λ e. omega arith); not_apart = λ apart. true≢false (apart 1 (omega arith)) }

pub apart_here : ApartHere
unfolding add sub mul div neg lt le of_int of_bits
apart_here zero h = refl
apart_here (suc zero) h = refl
apart_here (suc (suc i)) h = absurd (omega arith)

pub cut : Cut
unfolding step add sub mul div neg lt le of_int of_bits to_bits
cut = record { whole = refl; last_part_first = refl; first_part_first = refl }

pub in_slices : InSlices
unfolding step add sub mul div neg lt le of_int of_bits to_bits
in_slices = record {
  runs = record { session = refl; unrefused = none_refused (run all_cut walking).0 refl; over = refl; roots = (omega arith, (omega arith, (omega arith, tt))) };
  adjoints = refl;
  unfinished_so = refl;
  unfinished_session = refl;
  unfinished_unrefused = none_refused (run unfinished walking).0 refl;
  unfinished_adjoints = refl;
}
