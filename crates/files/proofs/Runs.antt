-- The lines in turn are the calls in turn: by induction on the lines, each read and then run.
use Prim.Native.Nat.{ℕ, suc, ◌+◌, ◌-◌, ◌≤◌, ◌<◌, zero-le}
use native.Mathlib.Nat.{add-zero}
use native.Mathlib.Omega.{arith}
use mathlib.Core.Path.{◌≡◌, refl, sym, subst, ◌∙◌}
use mathlib.Core.Bool.{Bool, true, false, cond}
use mathlib.Core.List.{List, [], ◌∷◌, ◌++◌}
use mathlib.Core.Option.{Option, none, some}
use borrow.Author.Tests.{eqb-true, eqb-false}
use lib.Dec.{eqb}
use lib.ListN.{length, get_or}
use Rattle.tape.specs.Numbers.{floats}
use Rattle.tape.specs.Machine.{Machine}
use Rattle.tape.specs.Answers.{Answer}
use Rattle.tape.specs.Calls.{Call, move, start}
use Rattle.tape.specs.Steps.{step, run}
use Rattle.tape.specs.Kept.{fresh, after}
use Rattle.tape.specs.Passes.{Unrefused}
use Rattle.tape.proofs.Tests.{by_test}
use Rattle.session.specs.Lines.{Line, Reader}
use Rattle.session.specs.Session.{call, stands, run_line, run_read, lines, Outcome, ended, stopped, run_lines, zeros, started}
use Rattle.files.specs.Files.{called, calls_of, session_calls, left_by, RunIsRun}

-- a line that is not refused names indexes below the length, and is the step of its call
pub stepped : (l : Line) (M : Machine floats) → (run_line l M).0.number ≡ 0 → (stands M l ≡ true) × (run_line l M ≡ step (call M l) M)
stepped l M = by_test (λ (x : Answer floats × Machine floats). x.0.number ≡ 0 → (stands M l ≡ true) × (x ≡ step (call M l) M)) (stands M l) (λ b _. (b, refl)) (λ _ e. absurd (omega arith))

-- what each line that is not refused keeps, P after so many calls
abbrev pub Keeps : (List ℕ → Option Line) → (ℕ → Machine floats → Type 0) → Type 0
Keeps read P = (j : ℕ) (M : Machine floats) (text : List ℕ) (l : Line) → read text ≡ some l → stands M l ≡ true → (step (call M l) M).0.number ≡ 0 → P j M → P (j + 1) (step (call M l) M).1

module _ (read : List ℕ → Option Line) (P : ℕ → Machine floats → Type 0) (each : Keeps read P) where
  -- what the lines come to, the first of them line k, is what the calls do on M
  pub record Follows (k : ℕ) (texts : List (List ℕ)) (M : Machine floats) (r : Outcome) (cs : List (Call floats)) : Type 0 where
    pub unrefused : Unrefused (run cs M).0
    pub few : length cs ≤ length texts
    pub keeps : (j : ℕ) → P j M → P (j + length cs) (after cs M)
    pub ended_so : (L : Machine floats) → r ≡ ended L → (L ≡ after cs M) × (length cs ≡ length texts)
    pub stopped_so : (number line : ℕ) → r ≡ stopped number line
        → (line ≡ k + length cs) × (length cs < length texts) × ((run_read (read (get_or texts (length cs) [])) (after cs M)).0.number ≡ number) × (number ≡ 0 → ⊥)

  -- a line that is refused
  refused_line : (k : ℕ) (text : List ℕ) (texts : List (List ℕ)) (M : Machine floats) (number : ℕ) → (run_read (read text) M).0.number ≡ number → (number ≡ 0 → ⊥) → Follows k (text ∷ texts) M (stopped number k) []
  refused_line k text texts M number e z = record {
    unrefused = tt;
    few = zero-le;
    keeps = λ j p. rw add-zero p;
    ended_so = λ L f. let z : ◌≡◌ {A = ℕ} 0 1 = cc in absurd (omega arith);
    stopped_so = λ n line f. let same : number ≡ n = cc in let at : k ≡ line = cc in (omega arith, omega arith, subst (λ m. (run_read (read text) M).0.number ≡ m) same e, λ q. z (omega arith));
  }

  -- one that is not, and those behind it
  one_more : (k : ℕ) (text : List ℕ) (texts : List (List ℕ)) (M : Machine floats) (c : Call floats) (r : Outcome) (cs : List (Call floats)) → (step c M).0.number ≡ 0 → ((j : ℕ) → P j M → P (j + 1) (step c M).1) → Follows (k + 1) texts (step c M).1 r cs → Follows k (text ∷ texts) M r (c ∷ cs)
  one_more k text texts M c r cs u kept f = record {
    unrefused = (u, f.unrefused);
    few = omega (arith, f.few);
    keeps = λ j p. let e : j + 1 + length cs ≡ j + suc (length cs) = omega arith in rw e at (f.keeps (j + 1) (kept j p));
    ended_so = λ L e. let (same, many) = f.ended_so L e in (same, omega arith);
    stopped_so = λ n line e. let (at, short, refuses, Some_number) = f.stopped_so n line e in (omega arith, omega arith, refuses, Some_number);
  }

  module _ (k : ℕ) (text : List ℕ) (texts : List (List ℕ)) (M : Machine floats) (rest : (L : Machine floats) → Follows (k + 1) texts L (run_lines read (k + 1) texts L) (calls_of read texts L)) where
    -- a line, by the number of its answer
    by_number : (l : Line) → read text ≡ some l → (x : Answer floats × Machine floats) → run_line l M ≡ x → (b : Bool) → eqb x.0.number 0 ≡ b
        → Follows k (text ∷ texts) M (cond b (run_lines read (k + 1) texts x.1) (stopped x.0.number k)) (cond b (call M l ∷ calls_of read texts x.1) [])
    by_number l e x same true b =
        let u : x.0.number ≡ 0 = eqb-true _ _ b in
        let (standing, so) = stepped l M (rw same u) in
        subst (λ y. y.0.number ≡ 0 → Follows k (text ∷ texts) M (run_lines read (k + 1) texts y.1) (call M l ∷ calls_of read texts y.1)) (sym so ∙ same) (λ v. one_more k text texts M (call M l) _ _ v (λ j. each j M text l e standing v) (rest (step (call M l) M).1)) u
    by_number l e x same false b = refused_line k text texts M x.0.number (rw (e, same)) (eqb-false _ _ b)

    -- what is read
    by_reading : (o : Option Line) → read text ≡ o → let one = run_read o M in
        Follows k (text ∷ texts) M (cond (eqb one.0.number 0) (run_lines read (k + 1) texts one.1) (stopped one.0.number k)) (cond (eqb one.0.number 0) (called o M ++ calls_of read texts one.1) [])
    by_reading none e = refused_line k text texts M 9 (rw e) (λ z. omega arith)
    by_reading (some l) e = by_number l e (run_line l M) refl (eqb (run_line l M).0.number 0) refl

  pub follows : (k : ℕ) (texts : List (List ℕ)) (M : Machine floats) → Follows k texts M (run_lines read k texts M) (calls_of read texts M)
  follows k [] M = record { unrefused = tt; few = zero-le; keeps = λ j p. rw add-zero p; ended_so = λ L e. let same : M ≡ L = cc in (sym same, refl); stopped_so = λ n line e. let z : ◌≡◌ {A = ℕ} 0 1 = cc in absurd (omega arith) }
  follows k (text ∷ texts) M = by_reading k text texts M (λ L. follows (k + 1) texts L) (read text) refl

pub start_answers : (step (move start) (fresh zeros)).0.number ≡ 0
unfolding step
start_answers = refl

pub run_is_run : RunIsRun
run_is_run = record {
  unrefused = λ R session. (start_answers, (of R session).unrefused);
  ended_so = λ R session. (of R session).ended_so;
  stopped_so = λ R session number line e.
      let (at, short, refuses, z) = (of R session).stopped_so number line e in
      let back : length (session_calls R session) ≡ line - 1 = omega arith in
      (at, omega arith, subst (λ i. (run_read (R.read (get_or (lines session) i [])) (left_by R session)).0.number ≡ number) back refuses, z);
} where
  of : (R : Reader) (session : List ℕ) → Follows R.read (λ _ _. Unit {0}) (λ _ _ _ _ _ _ _ _. tt) 1 (lines session) started (run_lines R.read 1 (lines session) started) (calls_of R.read (lines session) started)
  of R session = follows R.read (λ _ _. Unit {0}) (λ _ _ _ _ _ _ _ _. tt) 1 (lines session) started
