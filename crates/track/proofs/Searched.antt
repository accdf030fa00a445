-- A search from the first element on: what is found in the elements left is what is found in all.
use Rattle.std.proofs.Common.{◌≡◌, ℕ, ◌+◌, ◌<◌, ◌≤◌, Bool, true, false, List, length, get_or, drop, sym, refl, ap, ◌∙◌, add-one, arith, drop_of_length-le, drop-cons}
use Rattle.track.specs.Index.{first}

pub record Searched (p : ℕ → Bool) (xs : List ℕ) (i : ℕ) : Type 0 where
  pub within : i ≤ length xs
  pub whole : first p (drop i xs) ≡ first p xs

pub none_searched : (p : ℕ → Bool) (xs : List ℕ) → Searched p xs 0
none_searched p xs = record { within = omega arith; whole = refl }

pub one_searched : {p : ℕ → Bool} {xs : List ℕ} {i : ℕ} → Searched p xs i → i < length xs → p (get_or xs i 0) ≡ false → Searched p xs (i + 1)
one_searched {p} {xs} {i} s h t = record {
  within = omega arith;
  whole = rw (add-one i) (sym (rw t at (ap (first p) (drop-cons xs i 0 h))) ∙ s.whole);
}

pub found : {p : ℕ → Bool} {xs : List ℕ} {i : ℕ} → Searched p xs i → i < length xs → p (get_or xs i 0) ≡ true → get_or xs i 0 ≡ first p xs
found {p} {xs} {i} s h t = sym (rw t at (ap (first p) (drop-cons xs i 0 h))) ∙ s.whole

pub none_found : {p : ℕ → Bool} {xs : List ℕ} {i : ℕ} → Searched p xs i → length xs ≤ i → 0 ≡ first p xs
none_found {p} {xs} s h = sym (ap (first p) (drop_of_length-le xs h)) ∙ s.whole
