-- One interval is counted at one of the eight lengths, and the counts of all add up.
use Rattle.std.proofs.Common.{◌≡◌, ℕ, zero, suc, ◌+◌, ◌≤◌, cond, eqb, List, [], ◌∷◌, refl, arith}
use Rattle.track.specs.Total.{total}
use Rattle.track.specs.Cells.{nearest_cells, of_length}
use Rattle.track.specs.Laws.{lengths, EachOnce}
use Rattle.track.proofs.Lengths.{one_to_eight}

total_none : (ks : List ℕ) → total (λ k. 0) ks ≡ 0
total_none [] = refl
total_none (k ∷ ks) = omega (arith, total_none ks)

total_sum : (f g : ℕ → ℕ) (ks : List ℕ) → total (λ k. f k + g k) ks ≡ total f ks + total g ks
total_sum f g [] = refl
total_sum f g (k ∷ ks) = omega (arith, total_sum f g ks)

one_length : (n : ℕ) → (1 ≤ n) × (n ≤ 8) → total (λ cells. cond (eqb n cells) 1 0) lengths ≡ 1
one_length zero h = absurd (omega arith)
one_length (suc zero) h = refl
one_length (suc (suc zero)) h = refl
one_length (suc (suc (suc zero))) h = refl
one_length (suc (suc (suc (suc zero)))) h = refl
one_length (suc (suc (suc (suc (suc zero))))) h = refl
one_length (suc (suc (suc (suc (suc (suc zero)))))) h = refl
one_length (suc (suc (suc (suc (suc (suc (suc zero))))))) h = refl
one_length (suc (suc (suc (suc (suc (suc (suc (suc zero)))))))) h = refl
one_length (suc (suc (suc (suc (suc (suc (suc (suc (suc n))))))))) h = absurd (omega arith)

pub each_once : EachOnce
each_once seen [] = total_none lengths
each_once seen (x ∷ xs) =
    omega (arith, total_sum (λ cells. of_length seen cells x) (λ cells. total (of_length seen cells) xs) lengths, one_length (nearest_cells seen x) (one_to_eight seen x), each_once seen xs)
