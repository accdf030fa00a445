-- A search for the fewest decimals, from none on: what is found among those left is what is found among all.
use Rattle.std.proofs.Common.{◌≡◌, ℕ, suc, ◌+◌, ◌-◌, ◌<◌, ◌≤◌, true, false, refl, arith}
use lib.Ieee.{Float}
use Rattle.imaging.specs.Text.{rounded, two_digits, first_with_two, error_places}

pub record Searched (x : Float) (places : ℕ) : Type 0 where
  pub within : places ≤ 10
  pub whole : first_with_two x (10 - places) places ≡ error_places x

pub none_searched : (x : Float) → Searched x 0
none_searched x = record { within = omega arith; whole = refl }

pub one_searched : {x : Float} {places : ℕ} → Searched x places → places < 10 → two_digits (rounded x places) ≡ false → Searched x (places + 1)
one_searched {x} {places} s h t =
    let left : 10 - places ≡ suc (10 - (places + 1)) = omega arith in
    record { within = omega arith; whole = rw (left, t) at s.whole }

pub found : {x : Float} {places : ℕ} → Searched x places → places < 10 → two_digits (rounded x places) ≡ true → (places ≡ error_places x) × (places ≤ 9)
found {x} {places} s h t =
    let left : 10 - places ≡ suc (10 - (places + 1)) = omega arith in
    (rw (left, t) at s.whole, omega arith)

pub none_found : {x : Float} {places : ℕ} → Searched x places → 10 ≤ places → (3 ≡ error_places x) × (3 ≤ 9)
none_found {x} {places} s h =
    let none : 10 - places ≡ 0 = omega arith in
    (rw none at s.whole, omega arith)
