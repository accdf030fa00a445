-- What an answer says can be read back from its number and count.
use mathlib.Core.Path.{◌≡◌, refl, sym, ap, ◌∙◌}
use Rattle.tape.specs.Numbers.{floats}
use Rattle.tape.specs.Machine.{Machine}
use Rattle.tape.specs.Answers.{Answer}
use Rattle.tape.proofs.OneToOne.{by_number, at_refusal}
use Rattle.listing.specs.Outcome.{outcome, OneToOne}
use Rattle.tape.specs.declared.errors.Refusal.{Refusal}
use Rattle.std.specs.Prelude.{ℕ, Result, Ok, Err}

abbrev meant : Answer floats → Result ℕ Refusal
meant a = by_number (Ok a.count) Err a.number

read_back : (x : Result ℕ Refusal) (M : Machine floats) → meant (outcome x M).0 ≡ x
read_back (Ok n) M = refl
read_back (Err r) M = at_refusal (Ok 0) Err r

pub one_to_one : OneToOne
one_to_one x y M e = sym (read_back x M) ∙ ap (λ o. meant o.0) e ∙ read_back y M
