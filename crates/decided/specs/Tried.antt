-- A wrong answer, tried: what a promise's rule gives at some input, and what a wrong program would answer there, both
-- written out in whole numbers (of a float, its bits). Where they differ, the promise rules the wrong answer out.
use Rattle.std.specs.Prelude.{ℕ, Bool, true, false, not, ◌&&◌, cond, List, [], ◌∷◌, eqb, Float}
use Rattle.std.specs.Float.{binary64}
use Rattle.std.specs.Float.Ieee.{to_bits}

pub record Tried : Type 0 where
  pub right : List ℕ
  pub wrong : List ℕ

abbrev pub tried : {A : Type 0} → (A → List ℕ) → A → A → Tried
tried shown right wrong = record { right = shown right; wrong = shown wrong }

abbrev pub same : List ℕ → List ℕ → Bool
same [] [] = true
same [] (l ∷ ls) = false
same (k ∷ ks) [] = false
same (k ∷ ks) (l ∷ ls) = eqb k l && same ks ls

abbrev pub ruled_out : List Tried → Bool
ruled_out [] = true
ruled_out (t ∷ ts) = not (same t.right t.wrong) && ruled_out ts

-- ---- words for the rows

abbrev pub bits : Float → ℕ
bits = to_bits binary64

abbrev pub a_bool : Bool → Bool → Tried
a_bool = tried (λ b. cond b 1 0 ∷ [])
