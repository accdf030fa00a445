-- What the listing answers is what is reported, and its bytes are few: a tape that is listed fits.
use Prim.Native.Nat.{ℕ, ◌<◌}
use native.Mathlib.Omega.{arith}
use mathlib.Core.Path.{◌≡◌, refl, sym, ap, ◌∙◌}
use mathlib.Core.Bool.{cond}
use mathlib.Core.List.{List}
use lib.Dec.{eqb}
use lib.ListN.{length}
use Rattle.tape.specs.Numbers.{floats}
use Rattle.tape.specs.Machine.{Arrays, Machine, machine, new_tape}
use Rattle.tape.specs.Listing.{listing}
use Rattle.tape.specs.Answers.{Answer, number, refused, counted, outcome}
use Rattle.tape.specs.Calls.{list, move, start}
use Rattle.tape.specs.Kept.{fresh}
use Rattle.tape.specs.declared.tape.Tape.{Tape}
use Rattle.std.specs.Prelude.{Result, Ok, Err, IsOk}
use Rattle.tape.specs.Steps.{step}
use Rattle.tape.specs.declared.errors.Refusal.{Refusal}
use Rattle.tape.proofs.OneToOne.{never_nought, not_nought}
use Rattle.tape.proofs.Steps.{by_refusal, shape}
use Rattle.tape.proofs.Tests.{Fit, fit}
use Rattle.text.proofs.Numerals.{decimal_short}
use Rattle.listing.specs.Outcome.{listed}
use Rattle.listing.proofs.Lines.{listing_length, lines_length}
use Rattle.session.specs.Session.{lines, run_lines, ended, refusal, reported}
use Rattle.session.specs.Inner.{reading, came_to}
use Rattle.session.specs.declared.lines.Stop.{Stop}

-- what is reported of the listing's answer and bytes
abbrev reported_by : (Answer floats × Machine floats) × List ℕ → ℕ × List ℕ
reported_by x = (cond (eqb x.0.0.number 0) x.0.0.count (refusal x.0.0.number 0), x.1)

pub written_so : (n : ℕ) (M : Machine floats) (lent after : List ℕ) → ((counted n, M), after) ≡ listed M lent → (n, after) ≡ reported (ended M) lent
written_so n M lent after e = ap reported_by e

pub refused_so : (r : Refusal) (M : Machine floats) (lent after : List ℕ) → ((refused r, M), after) ≡ listed M lent → (refusal (number r) 0, after) ≡ reported (ended M) lent
refused_so r M lent after e = rw (not_nought r) at (ap reported_by e)

-- a tape of 65,535 nodes has no longer listing
small : (M : Machine floats) → Fit M → length (listing M) < 16777216
small M f = omega (arith, listing_length M.state M.lent, lines_length M.lent M.state.length (omega arith), decimal_short M.state.length, decimal_short M.state.mark)

answered_small : (k : ℕ) (M : Machine floats) → (step (list k) M).0.number ≡ 0 → (step (list k) M).0.count < 16777216
answered_small k M = by_refusal (λ x. x.0.number ≡ 0 → x.0.count < 16777216) (list k) M (λ r h e. absurd (never_nought r e)) (λ p e. small M (fit M (shape p)))

pub few_bytes : (n : ℕ) (M : Machine floats) (lent after : List ℕ) → ((counted n, M), after) ≡ listed M lent → n < 16777216
few_bytes n M lent after e = rw (ap (λ x. x.0.0.count) e) (answered_small (length lent) M (sym (ap (λ x. x.0.0.number) e)))

-- ---- the start

-- a start on a new tape is never refused
pub start_ok : (x : Result Tape Refusal) (t : Tape) (A : Arrays floats) → t ≡ new_tape → outcome x t A ≡ step (move start) (machine t A) → IsOk x
unfolding step
start_ok (Ok after) t A n e = refl
start_ok (Err r) t A n e = absurd (never_nought r (rw n at (ap (λ x. x.0.number) e)))

start_so : (x : Result Tape Refusal) (t after : Tape) (A : Arrays floats) → t ≡ new_tape → x ≡ Ok after → outcome x t A ≡ step (move start) (machine t A) → machine after A ≡ (step (move start) (fresh A)).1
start_so x t after A n o e = rw (n, o) at (ap (λ x. x.1) e)

-- ---- from the start to the last line

-- by the code's answers: the start's, on a new tape, and the lines', with the arrays that they leave
pub all_run : (session lent : List ℕ) (x : Result Tape Refusal) (t begun : Tape) (y : Result Tape Stop) (after : Tape) (A B C : Arrays floats)
    → t ≡ new_tape → x ≡ Ok begun → outcome x t A ≡ step (move start) (machine t A) → y ≡ Ok after → came_to y B ≡ run_lines reading 1 (lines session) (machine begun A) → C ≡ B
    → reported (ended (machine after C)) lent ≡ reported (run_lines reading 1 (lines session) (step (move start) (fresh A)).1) lent
all_run session lent x t begun y after A B C n o e ran whole same =
    let last : ended (machine after C) ≡ run_lines reading 1 (lines session) (machine begun A) = rw (same, ← whole, ran) in
    ap (λ o. reported o lent) (last ∙ ap (run_lines reading 1 (lines session)) (start_so x t begun A n o e))
