-- The least number that half of the times are not above stands in the middle, and it is one of them.
use Rattle.std.proofs.Common.{◌≡◌, ℕ, zero, suc, ◌+◌, ◌<◌, ◌≤◌, Bool, true, false, cond, eqb, ltb, leb, ◌⊎◌, List, [], ◌∷◌, length, sym, refl, ◌∙◌, inl, inr, arith, ltb-false, ltb-true, le-ltb, lt-ltb, eqb-true, le-leb, leb-false, leb-true}
use mathlib.Core.Bool.{and-eq-true_iff, false≢true}
use borrow.Author.Tests.{eqb-false, lt-leb}
use Rattle.track.specs.Total.{total}
use Rattle.track.specs.Index.{below, at_most, half, middle, first, median}
use Rattle.track.specs.Laws.{Among, Middle}

-- ---- counts below and not above

-- two tests, of which the second passes where the first does
count_less : (p q : ℕ → Bool) → ((x : ℕ) → p x ≡ true → q x ≡ true) → (xs : List ℕ) → total (λ x. cond (p x) 1 0) xs ≤ total (λ x. cond (q x) 1 0) xs
count_less p q h [] = omega arith
count_less p q h (x ∷ xs) = by_test (p x) (q x) (h x) (count_less p q h xs)
  where
    by_test : {m n : ℕ} (b c : Bool) → (b ≡ true → c ≡ true) → m ≤ n → cond b 1 0 + m ≤ cond c 1 0 + n
    by_test true c f k = rw (f refl) (omega arith)
    by_test false true f k = omega arith
    by_test false false f k = omega arith

not_above_below : (y z : ℕ) (xs : List ℕ) → y < z → at_most y xs ≤ below z xs
unfolding below at_most
not_above_below y z xs h = count_less (λ x. leb x y) (λ x. ltb x z) (λ x e. lt-ltb x z (omega (arith, leb-true x y e))) xs

below_not_above : (y : ℕ) (xs : List ℕ) → below (suc y) xs ≤ at_most y xs
unfolding below at_most
below_not_above y xs = count_less (λ x. ltb x (suc y)) (λ x. leb x y) (λ x e. le-leb x y (omega (arith, ltb-true x (suc y) e))) xs

none_below_zero : (xs : List ℕ) → below 0 xs ≡ 0
unfolding below
none_below_zero [] = refl
none_below_zero (x ∷ xs) = rw (le-ltb x 0 (omega arith)) (omega (arith, none_below_zero xs))

-- the sum of all is a number that none is above
all_at_most : (b : ℕ) (xs : List ℕ) → total (λ x. x) xs ≤ b → at_most b xs ≡ length xs
unfolding at_most
all_at_most b [] h = refl
all_at_most b (x ∷ xs) h = rw (le-leb x b (omega arith)) (omega (arith, all_at_most b xs (omega arith)))

-- ---- the middle

record Mid (xs : List ℕ) (y : ℕ) : Type 0 where
  low : below y xs < half (length xs)
  high : half (length xs) ≤ at_most y xs

mid : (xs : List ℕ) (y : ℕ) → middle xs y ≡ true → Mid xs y
unfolding middle
mid xs y e =
    let (a, b) = (and-eq-true_iff (ltb (below y xs) (half (length xs))) (leb (half (length xs)) (at_most y xs))).0 e in
    record { low = ltb-true _ _ a; high = leb-true _ _ b }

is_mid : (xs : List ℕ) (y : ℕ) → Mid xs y → middle xs y ≡ true
unfolding middle
is_mid xs y m = rw (lt-ltb _ _ m.low, le-leb _ _ m.high)

not_both : (xs : List ℕ) (y z : ℕ) → Mid xs y → Mid xs z → y < z → ⊥
not_both xs y z m n h = omega (arith, m.high, n.low, not_above_below y z xs h)

only : (xs : List ℕ) (y z : ℕ) → Mid xs y → Mid xs z → y ≡ z
only xs y z m n = by_test (ltb y z) (ltb z y) refl refl
  where
    by_test : (b c : Bool) → ltb y z ≡ b → ltb z y ≡ c → y ≡ z
    by_test true c e f = absurd (not_both xs y z m n (ltb-true y z e))
    by_test false true e f = absurd (not_both xs z y n m (ltb-true z y f))
    by_test false false e f = omega (arith, ltb-false y z e, ltb-false z y f)

least : (xs : List ℕ) (b : ℕ) → 1 ≤ length xs → half (length xs) ≤ at_most b xs → (y : ℕ) × Mid xs y
least xs zero s h = (0, record { low = omega (arith, none_below_zero xs); high = h })
least xs (suc b) s h = by_test (leb (half (length xs)) (at_most b xs)) refl (least xs b s)
  where
    by_test : (t : Bool) → leb (half (length xs)) (at_most b xs) ≡ t → (half (length xs) ≤ at_most b xs → (y : ℕ) × Mid xs y) → (y : ℕ) × Mid xs y
    by_test true e f = f (leb-true _ _ e)
    by_test false e f = (suc b, record { low = omega (arith, leb-false (half (length xs)) (at_most b xs) e, below_not_above b xs); high = h })

-- where more are not above than are below, one is there
there : (y : ℕ) (xs : List ℕ) → below y xs < at_most y xs → Among y xs
unfolding below at_most
there y [] h = omega arith
there y (x ∷ xs) h = by_test (eqb x y) (ltb x y) refl refl (there y xs)
  where
    by_test : (t u : Bool) → eqb x y ≡ t → ltb x y ≡ u → (total (λ x. cond (ltb x y) 1 0) xs < total (λ x. cond (leb x y) 1 0) xs → Among y xs) → Among y (x ∷ xs)
    by_test true u e f k = inl (sym (eqb-true x y e))
    by_test false true e f k = let g = rw (f, le-leb x y (omega (arith, ltb-true x y f))) at h in inr (k (omega arith))
    by_test false false e f k = let g = rw (f, lt-leb x y (omega (arith, ltb-false x y f, eqb-false x y e))) at h in inr (k (omega arith))

-- ---- the first that passes

found : (p : ℕ → Bool) (y : ℕ) (xs : List ℕ) → p y ≡ true → Among y xs → Among (first p xs) xs × (p (first p xs) ≡ true)
found p y [] e a = absurd a
found p y (x ∷ xs) e a = by_test (p x) refl a (found p y xs e)
  where
    by_test : (t : Bool) → p x ≡ t → (y ≡ x) ⊎ Among y xs → (Among y xs → Among (first p xs) xs × (p (first p xs) ≡ true)) → Among (cond t x (first p xs)) (x ∷ xs) × (p (cond t x (first p xs)) ≡ true)
    by_test true f b k = (inl refl, f)
    by_test false f (inl b) k = absurd (false≢true (sym f ∙ (rw b at e)))
    by_test false f (inr b) k = let (m, q) = k b in (inr m, q)

pub in_the_middle : Middle
unfolding median
in_the_middle xs s =
    let (y, m) = least xs (total (λ x. x) xs) s (omega (arith, all_at_most (total (λ x. x) xs) xs (omega arith))) in
    let (a, e) = found (middle xs) y xs (is_mid xs y m) (there y xs (omega (arith, m.low, m.high))) in
    (a, e, λ x f. only xs x (first (middle xs) xs) (mid xs x f) (mid xs (first (middle xs) xs) e))
