-- What the listing answers, in the machine's terms, and the lent bytes after it.
use Rattle.std.specs.Prelude.{ℕ, ◌≡◌, cond, Result, Ok, Err, List, ◌++◌, eqb, length, drop}
use Rattle.tape.specs.Numbers.{floats}
use Rattle.tape.specs.Machine.{Machine}
use Rattle.tape.specs.Listing.{listing}
use Rattle.tape.specs.Answers.{Answer, refused, counted}
use Rattle.tape.specs.Calls.{list}
use Rattle.tape.specs.Steps.{step}
use Rattle.tape.specs.declared.errors.Refusal.{Refusal}

-- how many bytes were written, or the refusal
abbrev pub outcome : Result ℕ Refusal → Machine floats → Answer floats × Machine floats
outcome (Ok n) M = (counted n, M)
outcome (Err r) M = (refused r, M)

-- the answer, and the lent bytes after the call: the listing and, behind it, what stood there; at a refusal as they
-- were
abbrev pub listed : Machine floats → List ℕ → (Answer floats × Machine floats) × List ℕ
listed M lent =
    let x = step (list (length lent)) M in
    (x, cond (eqb x.0.number 0) (listing M ++ drop (length (listing M)) lent) lent)

-- no two answers say the same. Proved in proofs/OneToOne.antt
abbrev pub OneToOne : Type 0
OneToOne = (x y : Result ℕ Refusal) (M : Machine floats) → outcome x M ≡ outcome y M → x ≡ y
