-- The median of index times, and which are apart from it.
use Rattle.std.specs.Prelude.{ℕ, ◌+◌, ◌-◌, ◌/◌, Bool, cond, ◌&&◌, List, [], ◌∷◌, length, pos, from_bits, nat_le, nat_lt, Float}
use Rattle.std.specs.Float.{binary64}
use Rattle.std.specs.Float.Ieee.{sub, mul, div, of_int}
use Rattle.track.specs.Total.{total}

-- how many are below a time
unfoldable pub below : ℕ → List ℕ → ℕ
below time xs = total (λ x. cond (nat_lt x time) 1 0) xs

-- how many are not above a time
unfoldable pub at_most : ℕ → List ℕ → ℕ
at_most time xs = total (λ x. cond (nat_le x time) 1 0) xs

-- half of so many, rounded up
abbrev pub half : ℕ → ℕ
half n = n - n / 2

-- the time stands in the middle: fewer than half, rounded up, are below it, and so many at least are not above it
unfoldable pub middle : List ℕ → ℕ → Bool
middle xs time = nat_lt (below time xs) (half (length xs)) && nat_le (half (length xs)) (at_most time xs)

-- the first element that passes a test, 0 if none does
abbrev pub first : (ℕ → Bool) → List ℕ → ℕ
first p [] = 0
first p (x ∷ xs) = cond (p x) x (first p xs)

-- the middle one of the times, of an even number the lower; 0 if there is none
unfoldable pub median : List ℕ → ℕ
median xs = first (middle xs) xs

-- more than 1/64 of a nominal turn lies between the two; the difference that would be below 0 is 0
unfoldable pub apart : ℕ → ℕ → Bool
apart time median = nat_lt 125000 ((time - median) + (median - time))

-- 8,000,000.0, the ticks of a nominal turn
abbrev pub nominal_turn : Float
nominal_turn = from_bits binary64 0x415e_8480_0000_0000

-- what a time is from `turn`, squared, in nominal turns; 0 for one that is apart from the median
unfoldable pub square_if_counted : ℕ → Float → ℕ → Float
square_if_counted median turn time =
    let x = sub binary64 (div binary64 (of_int binary64 (pos time)) nominal_turn) turn in
    cond (apart time median) (from_bits binary64 0) (mul binary64 x x)
