-- An index below 100,000 has one digit, and one more for each of four bounds that it reaches.
use Prim.Native.Nat.{ℕ, suc, ◌+◌, ◌-◌, ◌/◌, ◌≤◌, ◌<◌}
use native.Mathlib.Omega.{arith}
use mathlib.Core.Path.{◌≡◌}
use borrow.Author.Tests.{ltb-true, ltb-false}
use lib.Dec.{ltb}
use lib.ListN.{length}
use Rattle.text.specs.Numerals.{places, decimal}
use Rattle.text.proofs.Numerals.{length_digits, one_place}
use Rattle.tape.proofs.Tests.{by_test}

-- how many of the first n indexes reach a bound. It is shut since `omega` takes no more than six open differences
unfoldable pub beyond : ℕ → ℕ → ℕ
beyond n bound = n - bound

abbrev pub longer : ℕ → ℕ
longer n = beyond n 10 + beyond n 100 + beyond n 1000 + beyond n 10000

one_bound : (k i rest bound : ℕ) → (rest < 10 → i < bound) → (10 ≤ rest → bound ≤ i) → places (suc k) rest + beyond i bound ≡ places k (rest / 10) + beyond (suc i) bound
unfolding beyond
one_bound k i rest bound below above =
    by_test (λ m. m + (i - bound) ≡ places k (rest / 10) + (suc i - bound)) (ltb rest 10)
    (λ e. omega (arith, below (ltb-true rest 10 e), one_place k (rest / 10) (omega (arith, ltb-true rest 10 e))))
    (λ e. omega (arith, above (ltb-false rest 10 e)))

pub index_length : (i : ℕ) → i < 100000 → length (decimal i) + longer i ≡ 1 + longer (suc i)
index_length i h =
    omega (
      arith,
      length_digits 10 (places 19 i) i,
      one_bound 18 i i 10 (λ e. omega arith) (λ e. omega arith),
      one_bound 17 i (i / 10) 100 (λ e. omega arith) (λ e. omega arith),
      one_bound 16 i (i / 10 / 10) 1000 (λ e. omega arith) (λ e. omega arith),
      one_bound 15 i (i / 10 / 10 / 10) 10000 (λ e. omega arith) (λ e. omega arith),
      one_place 15 (i / 10 / 10 / 10 / 10) (omega arith),
    )
