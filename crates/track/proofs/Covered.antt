-- A part lies within the intervals; and the first parts are the first intervals.
use Rattle.std.proofs.Common.{◌≡◌, ℕ, zero, suc, ◌+◌, ◌-◌, ◌*◌, ◌<◌, ◌≤◌, min, List, ◌++◌, length, take, sym, ap, ◌∙◌, arith, length-drop, length-take, take-add}
use lib.Seq.{take-length}
use Rattle.track.specs.Parts.{part_count, part}
use Rattle.track.specs.Laws.{piece, pieces, Covered}

length_piece : (xs : List ℕ) (i : ℕ) → length (piece xs i) ≡ (part (length xs) i).end - (part (length xs) i).from
length_piece xs i = simp (length-take, length-drop) (omega arith)

first_parts : (xs : List ℕ) (k : ℕ) → pieces xs k ≡ take (min (1024 * k) (length xs)) xs
first_parts xs zero = let e : 0 ≡ min (1024 * 0) (length xs) = omega arith in ap (λ n. take n xs) e
first_parts xs (suc k) =
    let from = (part (length xs) k).from in
    let end = (part (length xs) k).end in
    let e : from + (end - from) ≡ min (1024 * suc k) (length xs) = omega arith in
    ap (λ l. l ++ piece xs k) (first_parts xs k) ∙ sym (take-add from (end - from) xs) ∙ ap (λ n. take n xs) e

some_in_each : (n i : ℕ) → i < part_count n → (1 ≤ (part n i).end - (part n i).from) × ((part n i).end - (part n i).from ≤ 1024)
some_in_each n i h = (omega arith, omega arith)

pub covered : Covered
covered xs = (
  first_parts xs (part_count (length xs)) ∙ ap (λ n. take n xs) all ∙ take-length xs,
  λ i h. rw (length_piece xs i) (some_in_each (length xs) i h),
)
  where
    all : min (1024 * part_count (length xs)) (length xs) ≡ length xs
    all = omega arith
