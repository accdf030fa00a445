-- How long a session's listing can be: by the lengths of its header and its lines, on a tape of at most 1,024 nodes.
use Prim.Native.Nat.{ℕ, suc, ◌/◌, ◌≤◌, ◌<◌}
use native.Mathlib.Omega.{arith}
use borrow.Author.Tests.{ltb-false}
use lib.Dec.{ltb}
use lib.ListN.{length}
use Rattle.text.specs.Numerals.{places, decimal}
use Rattle.text.proofs.Numerals.{length_digits, one_place}
use Rattle.tape.specs.Numbers.{floats}
use Rattle.tape.specs.Machine.{Machine}
use Rattle.tape.specs.Listing.{listing}
use Rattle.tape.proofs.Tests.{by_test}
use Rattle.listing.proofs.Lines.{lines_length, listing_length}
use Rattle.session.specs.Session.{session_nodes}
use Rattle.files.specs.Files.{most_listing}

-- one place more for the last digit
one_more : (k i most : ℕ) → (10 ≤ i → places k (i / 10) ≤ most) → 1 ≤ suc most → places (suc k) i ≤ suc most
one_more k i most rest first = by_test (λ m. m ≤ suc most) (ltb i 10) (λ _. first) (λ e. omega (arith, rest (ltb-false i 10 e)))

four_digits : (i : ℕ) → i < 10000 → length (decimal i) ≤ 4
four_digits i h =
    let last = one_place 16 (i / 10 / 10 / 10) (omega arith) in
    let two = one_more 16 (i / 10 / 10) 1 (λ _. omega (arith, last)) (omega arith) in
    let three = one_more 17 (i / 10) 2 (λ _. two) (omega arith) in
    omega (arith, length_digits 10 (places 19 i) i, one_more 18 i 3 (λ _. three) (omega arith))

pub longest : (M : Machine floats) → M.state.length ≤ session_nodes → M.state.mark ≤ M.state.length → length (listing M) ≤ most_listing
longest M l m =
    omega (
      arith,
      listing_length M.state M.lent,
      lines_length M.lent M.state.length (omega arith),
      four_digits M.state.length (omega arith),
      four_digits M.state.mark (omega arith),
    )
