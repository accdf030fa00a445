-- What follows from tests: a branch, a list of tests that all hold, and bounds where refusal 1 is not given; and back,
-- from bounds to the tests.
use Prim.Native.Nat.{ℕ, ◌≤◌, ◌<◌}
use mathlib.Core.Path.{◌≡◌, refl}
use mathlib.Core.Bool.{Bool, true, false, ◌||◌, cond, true≢false, and-eq-true_iff}
use mathlib.Core.List.{List, [], ◌∷◌, ◌++◌}
use borrow.Author.Tests.{ltb-true, leb-true, eqb-true, eqb-false, not-true, lt-ltb, le-leb, eq-eqb, ne_eqb}
use lib.Dec.{ltb, leb}
use lib.ListN.{length}
use Rattle.tape.specs.Numbers.{Numbers}
use Rattle.tape.specs.Machine.{Machine, machine, capacity, slot, all, most_nodes}
use Rattle.tape.specs.Admission.{lengths, fits, arrays_fit, walk_fits, state_fits}
use Rattle.tape.specs.declared.tape.Span.{Span}
use Rattle.tape.specs.declared.tape.Tape.{Tape}
use Rattle.std.specs.Prelude.{Some}

pub by_test : {A : Type 0} (P : A → Type 0) (b : Bool) {x y : A} → (b ≡ true → P x) → (b ≡ false → P y) → P (cond b x y)
by_test P true f g = f refl
by_test P false f g = g refl

pub by_or : {P : Type 0} (a b : Bool) → (a ≡ true → P) → (b ≡ true → P) → a || b ≡ true → P
by_or true b f g e = f refl
by_or false b f g e = g e

pub or_false : (a b : Bool) → a || b ≡ false → (a ≡ false) × (b ≡ false)
or_false true b e = (e, absurd (true≢false e))
or_false false b e = (refl, e)

pub is_false : (b : Bool) → (b ≡ true → ⊥) → b ≡ false
is_false true f = absurd (f refl)
is_false false f = refl

abbrev pub Every : List Bool → Type 0
Every [] = Unit {0}
Every (b ∷ bs) = (b ≡ true) × Every bs

pub every : (bs : List Bool) → all bs ≡ true → Every bs
every [] e = tt
every (b ∷ bs) e = let both = (and-eq-true_iff b (all bs)).0 e in (both.0, every bs both.1)

-- a walk that is open fits if it has a node left and none past the length, and only then
pub walk_fit_so : (n : ℕ) (s : Span) → s.from < s.end → s.end ≤ n → walk_fits n (Some s) ≡ true
walk_fit_so n s l h = simp (lt-ltb s.from s.end l, le-leb s.end n h)

pub walk_fit : (n : ℕ) (s : Span) → walk_fits n (Some s) ≡ true → (s.from < s.end) × (s.end ≤ n)
walk_fit n s e =
    let both = (and-eq-true_iff (ltb s.from s.end) (leb s.end n)).0 e in
    (ltb-true _ _ both.0, leb-true _ _ both.1)

pub record StateFit (n : ℕ) (t : Tape) : Type 0 where
  pub length : t.length ≤ n
  pub mark : t.mark ≤ t.length
  pub next : t.next ≡ 0 → ⊥
  pub walk : walk_fits t.length t.walk ≡ true

of_tests : (n : ℕ) (t : Tape) → Every (state_fits n t) → StateFit n t
of_tests n t (l, (m, (s, (w, _)))) = record { length = leb-true _ _ l; mark = leb-true _ _ m; next = eqb-false _ _ (not-true _ s); walk = w }

pub state_fit : (n : ℕ) (t : Tape) → all (state_fits n t) ≡ true → StateFit n t
state_fit n t e = of_tests n t (every (state_fits n t) e)

pub record Fit {N : Numbers} (M : Machine N) : Type 0 where
  pub small : capacity M.lent ≤ most_nodes
  pub adjoint : length M.lent.adjoint ≡ capacity M.lent
  pub serial : length M.lent.serial ≡ capacity M.lent
  pub count : length M.lent.count ≡ capacity M.lent
  pub child : length M.lent.child ≡ slot (capacity M.lent)
  pub partial : length M.lent.partial ≡ slot (capacity M.lent)
  pub state : StateFit (capacity M.lent) M.state

pub fit : {N : Numbers} (M : Machine N) → fits true M ≡ true → Fit M
fit M e =
    let (n, (a, (s, (c, (h, (p, state)))))) = every (arrays_fit (lengths M.lent) ++ state_fits (capacity M.lent) M.state) e in
    record { small = leb-true _ _ n; adjoint = eqb-true _ _ a; serial = eqb-true _ _ s; count = eqb-true _ _ c; child = eqb-true _ _ h; partial = eqb-true _ _ p; state = of_tests _ _ state }

-- ---- the other way: from bounds to the tests

pub state_fit_so : (n : ℕ) (t : Tape) → StateFit n t → all (state_fits n t) ≡ true
state_fit_so n t f = simp (le-leb _ _ f.length, le-leb _ _ f.mark, ne_eqb _ _ f.next, f.walk)

-- the arrays of a machine that fits, under any state that does
pub refits : {N : Numbers} (M : Machine N) (t : Tape) → Fit M → StateFit (capacity M.lent) t → fits true (machine t M.lent) ≡ true
refits M t f g = simp (le-leb _ _ f.small, eq-eqb _ _ f.adjoint, eq-eqb _ _ f.serial, eq-eqb _ _ f.count, eq-eqb _ _ f.child, eq-eqb _ _ f.partial, state_fit_so _ t g)
