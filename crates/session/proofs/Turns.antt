-- The lines are run from the first on: the first is what is cut off up to its line feed, and what it comes to decides
-- what the rest comes to.
use Prim.Native.Nat.{ℕ, zero, suc, ◌+◌, ◌<◌, min}
use native.Mathlib.Omega.{arith}
use mathlib.Core.Path.{◌≡◌, refl, sym, ap, ◌∙◌}
use mathlib.Core.Bool.{Bool, true, false, cond}
use mathlib.Core.List.{List, [], ◌∷◌, ◌++◌}
use mathlib.Core.Logic.{◌⊎◌, inl, inr}
use lib.Dec.{eqb}
use lib.ListN.{length, take, drop}
use lib.Seq.{take-append_seam, drop-append_seam}
use Rattle.std.specs.Prelude.{◌==◌}
use Rattle.std.specs.List.{IsFirstMatchOrLen}
use Rattle.tape.specs.Numbers.{floats}
use Rattle.tape.specs.Machine.{Machine}
use Rattle.tape.specs.Answers.{number}
use Rattle.tape.specs.declared.errors.Refusal.{Refusal}
use Rattle.tape.proofs.OneToOne.{not_nought}
use Rattle.session.specs.Session.{Outcome, onto, lines, run_read, run_lines, ended, stopped}
use Rattle.session.specs.Inner.{reading, told}

-- ---- where a line ends

-- how many bytes the first line has
abbrev line_length : List ℕ → ℕ
line_length [] = 0
line_length (byte ∷ bytes) = cond (eqb byte 10) 1 (suc (line_length bytes))

-- the first line is the bytes that it has, and the others are those behind it
first_line : (bytes : List ℕ) → 0 < length bytes → lines bytes ≡ take (line_length bytes) bytes ∷ lines (drop (line_length bytes) bytes)
first_line [] h = absurd (omega arith)
first_line (b ∷ bytes) h = by_feed (eqb b 10) (onto_first b bytes (first_line bytes))
  where
    by_feed : (t : Bool) → onto b (lines bytes) ≡ (b ∷ take (line_length bytes) bytes) ∷ lines (drop (line_length bytes) bytes) → cond t ((b ∷ []) ∷ lines bytes) (onto b (lines bytes)) ≡ take (cond t 1 (suc (line_length bytes))) (b ∷ bytes) ∷ lines (drop (cond t 1 (suc (line_length bytes))) (b ∷ bytes))
    by_feed true e = refl
    by_feed false e = e

    onto_first : (b : ℕ) (bytes : List ℕ) → (0 < length bytes → lines bytes ≡ take (line_length bytes) bytes ∷ lines (drop (line_length bytes) bytes)) → onto b (lines bytes) ≡ (b ∷ take (line_length bytes) bytes) ∷ lines (drop (line_length bytes) bytes)
    onto_first b [] f = refl
    onto_first b (x ∷ bytes) f = ap (onto b) (f (omega arith))

-- as it is cut off: up to a line feed, or to the end
cut_length : (bytes : List ℕ) (i : ℕ) → IsFirstMatchOrLen (λ b. b == 10) bytes i → min (i + 1) (length bytes) ≡ line_length bytes
cut_length [] i h = omega arith
cut_length (b ∷ bytes) zero h = let e : eqb b 10 ≡ true = h.1 (omega arith) b in rw e (omega arith)
cut_length (b ∷ bytes) (suc i) h =
    let e : eqb b 10 ≡ false = h.0 0 b (omega arith) (omega arith) in
    let rest = cut_length bytes i ((λ k d low high. h.0 (suc k) d (omega arith) (omega arith)), (λ within d. h.1 (omega arith) d)) in
    rw e (omega arith)

lines_cut : (text later : List ℕ) (i : ℕ) → length text ≡ min (i + 1) (length (text ++ later)) → IsFirstMatchOrLen (λ b. b == 10) (text ++ later) i → 0 < length (text ++ later) → lines (text ++ later) ≡ text ∷ lines later
lines_cut text later i long first some =
    let e : line_length (text ++ later) ≡ length text = sym (long ∙ cut_length (text ++ later) i first) in
    first_line (text ++ later) some ∙ rw (e, take-append_seam text later, drop-append_seam text later)

-- ---- the lines in turn

-- what a line comes to decides what the rest comes to
abbrev goes_on : ℕ → List (List ℕ) → ℕ × Machine floats → Outcome
goes_on line rest x = cond (eqb x.0 0) (run_lines reading (line + 1) rest x.1) (stopped x.0 line)

module _ (rest text later : List ℕ) (line i : ℕ) (M : Machine floats) (cut : rest ≡ text ++ later) (long : length text ≡ min (i + 1) (length rest)) (first : IsFirstMatchOrLen (λ b. b == 10) rest i) (some : 0 < length rest) where
  one_line : run_lines reading line (lines rest) M ≡ goes_on line (lines later) (told (run_read (reading text) M))
  one_line = ap (λ ls. run_lines reading line ls M) (ap lines cut ∙ lines_cut text later i (rw cut at long) (rw cut at first) (rw cut at some))

  pub one_ran : {after : Machine floats} → (0, after) ≡ told (run_read (reading text) M) → run_lines reading (line + 1) (lines later) after ≡ run_lines reading line (lines rest) M
  one_ran e = sym (one_line ∙ ap (goes_on line (lines later)) (sym e))

  pub one_stopped : (r : Refusal) {after : Machine floats} → (number r, after) ≡ told (run_read (reading text) M) → stopped (number r) line ≡ run_lines reading line (lines rest) M
  one_stopped r e = sym (one_line ∙ ap (goes_on line (lines later)) (sym e) ∙ rw (not_nought r))

-- where there is none left, on whichever of two grounds
pub all_ran : {P Q : Type 0} (rest : List ℕ) (line : ℕ) (M : Machine floats) → P ⊎ Q → (P → length rest ≡ 0) → (Q → length rest ≡ 0) → ended M ≡ run_lines reading line (lines rest) M
all_ran [] line M or f g = refl
all_ran (b ∷ rest) line M (inl p) f g = let e = f p in absurd (omega arith)
all_ran (b ∷ rest) line M (inr q) f g = let e = g q in absurd (omega arith)
