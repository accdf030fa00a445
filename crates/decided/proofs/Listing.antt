-- A listing's answer and the bytes that it leaves are what the rule gives.
use Prim.Native.Nat.{ℕ}
use mathlib.Core.Path.{◌≡◌, ap}
use mathlib.Core.List.{List}
use Rattle.tape.specs.Numbers.{floats}
use Rattle.tape.specs.Machine.{Machine}
use Rattle.tape.specs.Answers.{Answer}
use Rattle.listing.specs.Outcome.{outcome}
use Rattle.std.specs.Prelude.{Result}
use Rattle.tape.specs.declared.errors.Refusal.{Refusal}
use Rattle.listing.proofs.OneToOne.{one_to_one}
use Rattle.decided.specs.Listing.{Listing}
use Rattle.decided.proofs.Rules.{equal, through_with}

-- what a listing's promise says of an answer and the bytes
abbrev says : Machine floats → Result ℕ Refusal → List ℕ → (Answer floats × Machine floats) × List ℕ
says M x out = (outcome x M, out)

-- no two of them say the same
both_one_to_one : (M : Machine floats) (x y : Result ℕ Refusal) (b c : List ℕ) → says M x b ≡ says M y c → (x ≡ y) × (b ≡ c)
both_one_to_one M x y b c e = (one_to_one x y M (ap (λ o. o.0) e), ap (λ o. o.1) e)

-- what is left of a listing's parameters: the bytes, behind the state, the nodes and the adjoints, of which nothing is
abbrev pub bytes : List ℕ → Unit {0} × (Unit {0} × (Unit {0} × (List ℕ × Unit {0})))
bytes out = (tt, (tt, (tt, (out, tt))))

pub listing : Listing
listing = record {
  bits_of = record { same = equal };
  float_of = record { same = equal };
  list = record { same = through_with (both_one_to_one _) bytes _ _ };
}
