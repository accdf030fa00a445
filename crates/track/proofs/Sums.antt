-- A sum of floats over a list, taken from the first element on: what the elements left make of the sum so far is the whole.
use Rattle.std.proofs.Common.{◌≡◌, ℕ, ◌≤◌, List, length, drop}
use lib.Ieee.{Float}
use Rattle.track.specs.Total.{added_to, float_total}

pub record Summed (f : ℕ → Float) (xs : List ℕ) (sum : Float) (i : ℕ) : Type 0 where
  pub within : i ≤ length xs
  pub whole : added_to sum f (drop i xs) ≡ float_total f xs
