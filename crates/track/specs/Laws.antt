-- What holds of every list. `EachOnce`, `Middle` and `Covered` are proved in proofs/, in files of these names.
use Rattle.std.specs.Prelude.{◌≡◌, ℕ, zero, suc, ◌-◌, ◌<◌, ◌≤◌, true, ◌⊎◌, List, [], ◌∷◌, ◌++◌, length, take, drop, Float}
use Rattle.track.specs.Total.{total}
use Rattle.track.specs.Cells.{of_length}
use Rattle.track.specs.Index.{middle, median}
use Rattle.track.specs.Parts.{part_count, part}

-- how many cells an interval can have
abbrev pub lengths : List ℕ
lengths = 1 ∷ 2 ∷ 3 ∷ 4 ∷ 5 ∷ 6 ∷ 7 ∷ 8 ∷ []

-- each interval is counted at one length, and at no other
abbrev pub EachOnce : Type 0
EachOnce = (seen : Float) (xs : List ℕ) → total (λ cells. total (of_length seen cells) xs) lengths ≡ length xs

-- x stands in the list
abbrev pub Among : ℕ → List ℕ → Type 0
Among x [] = ⊥
Among x (y ∷ ys) = (x ≡ y) ⊎ Among x ys

-- of some times the median is one; it stands in the middle, and no other number does
abbrev pub Middle : Type 0
Middle =
    (xs : List ℕ) → 1 ≤ length xs
    → Among (median xs) xs × (middle xs (median xs) ≡ true) × ((x : ℕ) → middle xs x ≡ true → x ≡ median xs)

-- the elements that part i has
abbrev pub piece : List ℕ → ℕ → List ℕ
piece xs i = let p = part (length xs) i in take (p.end - p.from) (drop p.from xs)

-- the first k parts, one after the other
abbrev pub pieces : List ℕ → ℕ → List ℕ
pieces xs zero = []
pieces xs (suc k) = pieces xs k ++ piece xs k

-- the parts make the whole, and each has some elements and no more than there is room for
abbrev pub Covered : Type 0
Covered =
    (xs : List ℕ)
    → (pieces xs (part_count (length xs)) ≡ xs)
    × ((i : ℕ) → i < part_count (length xs) → (1 ≤ length (piece xs i)) × (length (piece xs i) ≤ 1024))
