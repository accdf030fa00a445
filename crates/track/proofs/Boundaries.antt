-- A search for the first boundary that a time is below: the boundaries passed so far and what is left make the whole.
use Rattle.std.proofs.Common.{◌≡◌, ℕ, ◌+◌, ◌<◌, ◌≤◌, true, false, List, length, get_or, drop, map, add-one, ap, arith, drop_of_length-le, drop-cons}
use Rattle.std.proofs.lemmas.List.{get_or-map}
use lib.Ieee.{Float, nan, binary64, lt, mul, of_bits}
use Rattle.track.specs.Cells.{first_above}

pub record Passed (seen t : Float) (bs : List ℕ) (i : ℕ) : Type 0 where
  pub within : i ≤ length bs
  pub whole : i + first_above seen t (drop i bs) ≡ first_above seen t bs

module _ {seen t : Float} {bs : List ℕ} {i : ℕ} (p : Passed seen t bs i) where
  pub first : i < length bs → lt t (mul binary64 (get_or (map (of_bits binary64) bs) i nan) seen) ≡ true → i + 1 ≡ first_above seen t bs
  first h e =
      let f = rw (get_or-map (of_bits binary64) bs i 0 nan h) at e in
      let g = rw f at (ap (first_above seen t) (drop-cons bs i 0 h)) in
      omega (arith, p.whole, g)

  pub one_passed : i < length bs → lt t (mul binary64 (get_or (map (of_bits binary64) bs) i nan) seen) ≡ false → Passed seen t bs (i + 1)
  one_passed h e =
      let f = rw (get_or-map (of_bits binary64) bs i 0 nan h) at e in
      let g = rw f at (ap (first_above seen t) (drop-cons bs i 0 h)) in
      record { within = omega arith; whole = rw (add-one i) (omega (arith, p.whole, g)) }

  pub all_passed : length bs ≤ i → length bs + 1 ≡ first_above seen t bs
  all_passed h = omega (arith, p.within, p.whole, ap (first_above seen t) (drop_of_length-le bs h))
