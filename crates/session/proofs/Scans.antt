-- Where the first such byte stands.
use Prim.Native.Nat.{ℕ, suc, ◌+◌, ◌≤◌}
use native.Mathlib.Omega.{arith}
use mathlib.Core.Path.{◌≡◌, refl}
use mathlib.Core.Bool.{Bool, true, false, not, cond}
use mathlib.Core.List.{List, [], ◌∷◌}
use borrow.Author.Tests.{ltb-false}
use lib.Dec.{ltb, eqb}
use lib.ListN.{length}
use Rattle.std.specs.Prelude.{◌==◌, unwrap_or, position}
use Rattle.std.specs.List.{position_or_len}
use Rattle.tape.proofs.Tests.{by_test}
use Rattle.session.specs.Inner.{find}

pub find_within : (byte : ℕ) (text : List ℕ) → find byte text ≤ length text
find_within byte [] = omega arith
find_within byte (x ∷ text) = one (eqb x byte) (find_within byte text)
  where
    one : {i n : ℕ} (t : Bool) → i ≤ n → cond t 0 (suc i) ≤ suc n
    one true h = omega arith
    one false h = omega arith

same_place : (byte : ℕ) (text : List ℕ) → position_or_len (λ b. b == byte) text ≡ find byte text
same_place byte [] = refl
same_place byte (x ∷ text) = one (eqb x byte) (same_place byte text)
  where
    one : {i j : ℕ} (t : Bool) → i ≡ j → cond (not t) (1 + i) 0 ≡ cond t 0 (suc j)
    one true e = refl
    one false e = omega arith

pub first_or_length : (byte : ℕ) (text : List ℕ) → unwrap_or (position (λ b. b == byte) text) (length text) ≡ find byte text
first_or_length byte text =
    let at = position_or_len (λ b. b == byte) text in
    by_test (λ p. unwrap_or p (length text) ≡ find byte text) (ltb at (length text)) (λ e. same_place byte text)
    (λ e. omega (arith, ltb-false at (length text) e, same_place byte text, find_within byte text))
