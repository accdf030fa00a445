-- Lists of indexes, sums and tests taken apart in two: by induction on the first part.
use Prim.Native.Nat.{ℕ, zero, suc, ◌+◌, ◌-◌, ◌≤◌, ◌<◌}
use native.Mathlib.Nat.{zero-add, add-zero, add-suc, suc-add, add_assoc, le_refl, add-sub_of_le}
use native.Mathlib.Numerals.{add-one}
use native.Mathlib.Omega.{arith}
use mathlib.Core.Path.{◌≡◌, refl, sym, ap}
use mathlib.Core.Bool.{Bool, true, ◌&&◌, and_assoc}
use mathlib.Core.List.{List, [], ◌∷◌, ◌++◌, map}
use lib.ListN.{length}
use Rattle.tape.specs.Machine.{all}
use Rattle.tape.specs.Walk.{indexes, sum}

pub length_indexes : (i k : ℕ) → length (indexes i k) ≡ k
length_indexes i zero = refl
length_indexes i (suc k) = ap suc (length_indexes (suc i) k)

-- the first of what is left
pub less_one : (i end : ℕ) → i < end → end - i ≡ suc (end - (i + 1))
less_one i end h = omega arith

pub indexes_first : (i end : ℕ) → i < end → indexes i (end - i) ≡ i ∷ indexes (i + 1) (end - (i + 1))
indexes_first i end h = rw (less_one i end h, add-one i)

pub nothing_left : (i end : ℕ) → end ≤ i → end - i ≡ 0
nothing_left i end h = omega arith

pub indexes_append : (i j k : ℕ) → indexes i (j + k) ≡ indexes i j ++ indexes (i + j) k
indexes_append i zero k = simp (zero-add, add-zero)
indexes_append i (suc j) k = rw (suc-add, indexes_append (suc i) j k, suc-add, add-suc)

-- a range cut in two at m
pub indexes_cut : (i m n : ℕ) → i ≤ m → m ≤ n → indexes i (n - i) ≡ indexes i (m - i) ++ indexes m (n - m)
indexes_cut i m n l h =
    let whole : m - i + (n - m) ≡ n - i = omega arith in
    rw (whole, add-sub_of_le l) at (indexes_append i (m - i) (n - m))

pub sum_append : (ks ls : List ℕ) → sum (ks ++ ls) ≡ sum ks + sum ls
sum_append [] ls = sym (zero-add _)
sum_append (k ∷ ks) ls = rw (sum_append ks ls, add_assoc)

pub all_append : (bs cs : List Bool) → all (bs ++ cs) ≡ (all bs && all cs)
all_append [] cs = refl
all_append (b ∷ bs) cs = rw (all_append bs cs, and_assoc)

-- a test that holds at each index of a range
pub all_below : (f : ℕ → Bool) (i k : ℕ) → ((j : ℕ) → i ≤ j → j < i + k → f j ≡ true) → all (map f (indexes i k)) ≡ true
all_below f i zero each = refl
all_below f i (suc k) each = rw (each i (le_refl i) (omega arith)) (all_below f (suc i) k (λ j l h. each j (omega arith) (omega arith)))
