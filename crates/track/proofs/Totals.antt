-- Sums over a list. A chain or a loop adds from the first element on, and `total` goes down the list.
use Rattle.std.proofs.Common.{◌≡◌, ℕ, ◌+◌, ◌*◌, ◌<◌, ◌≤◌, Bool, true, false, cond, List, [], ◌∷◌, length, get_or, drop, fold, count_by, ap, ◌∙◌, add-one, arith, drop-cons}
use Rattle.track.specs.Total.{total}

folded : (f : ℕ → ℕ) (n : ℕ) (xs : List ℕ) → fold (λ a x. a + f x) n xs ≡ n + total f xs
folded f n [] = omega arith
folded f n (x ∷ xs) = folded f (n + f x) xs ∙ omega arith

pub counted : (p : ℕ → Bool) (xs : List ℕ) → count_by p xs ≡ total (λ x. cond (p x) 1 0) xs
counted p xs = folded (λ x. cond (p x) 1 0) 0 xs ∙ omega arith

-- ---- a sum in a loop: the sum so far and that of the elements left make the whole

-- `most` is what one element adds at most
pub record Added (f : ℕ → ℕ) (most : ℕ) (xs : List ℕ) (sum i : ℕ) : Type 0 where
  pub within : i ≤ length xs
  pub small : sum ≤ most * i
  pub whole : sum + total f (drop i xs) ≡ total f xs

pub one_added : {f : ℕ → ℕ} {most : ℕ} {xs : List ℕ} {sum next i : ℕ} → Added f most xs sum i → i < length xs → f (get_or xs i 0) ≤ most → next ≡ sum + f (get_or xs i 0) → Added f most xs next (i + 1)
one_added {f} {most} {xs} {sum} {next} {i} a h k e = record {
  within = omega arith;
  small = omega arith;
  whole = rw (add-one i) (omega (arith, a.whole, ap (total f) (drop-cons xs i 0 h)));
}

-- ---- a count

-- a count is a sum of ones, for those that pass a test
abbrev pub Counted : (ℕ → Bool) → List ℕ → ℕ → ℕ → Type 0
Counted p xs n i = Added (λ x. cond (p x) 1 0) 1 xs n i

pub one_passed : (p : ℕ → Bool) {xs : List ℕ} {n next i : ℕ} → Counted p xs n i → i < length xs → p (get_or xs i 0) ≡ true → next ≡ n + 1 → Counted p xs next (i + 1)
one_passed p a h t e = one_added a h (rw t (omega arith)) (rw t e)

pub one_failed : (p : ℕ → Bool) {xs : List ℕ} {n next i : ℕ} → Counted p xs n i → i < length xs → p (get_or xs i 0) ≡ false → next ≡ n → Counted p xs next (i + 1)
one_failed p a h t e = one_added a h (rw t (omega arith)) (rw t (omega arith))
