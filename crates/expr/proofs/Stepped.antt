-- The rule of a recording, as the code goes about it: what `decide` answers, carried on, is the machine's step.
use Prim.Native.Nat.{ℕ, zero, suc, ◌+◌, ◌<◌}
use native.Mathlib.Nat.{zero-add, add-zero}
use native.Mathlib.Omega.{arith}
use mathlib.Core.Path.{◌≡◌, refl, sym, ap, subst, ◌∙◌}
use mathlib.Core.Bool.{Bool, true, false, not, ◌&&◌, cond}
use mathlib.Core.List.{List, [], ◌∷◌, ◌++◌, append-nil}
use mathlib.Core.Option.{Option, none, some}
use borrow.Author.Tests.{ltb-true}
use lib.Dec.{eqb}
use lib.Ieee.{Float, nan}
use lib.ListN.{length, get_or}
use Rattle.tape.specs.Numbers.{floats}
use Rattle.tape.specs.Machine.{Machine, capacity}
use Rattle.tape.specs.Handles.{live, amiss, operand_value, handles, operand}
use Rattle.tape.specs.Operations.{Row, row, rows, as_stored, apply, known, one_sided, used}
use Rattle.tape.specs.Answers.{Answer, refused, detached}
use Rattle.tape.specs.Walk.{Edge}
use Rattle.tape.specs.Calls.{edge, edges, operate}
use Rattle.tape.specs.Admission.{let_in, when, first}
use Rattle.tape.specs.Refusals.{first_amiss, last_serial}
use Rattle.tape.specs.Steps.{unless, step}
use Rattle.tape.specs.declared.errors.Refusal.{Refusal}
use Rattle.tape.specs.declared.errors.Refusal.TheVariants.{UnknownOperation, Full, SerialsSpent}
use Rattle.tape.specs.declared.node.Operand.{Operand}
use Rattle.tape.specs.declared.node.Operand.TheVariants.{Number, Node}
use Rattle.tape.specs.declared.admission.Caller.TheVariants as caller
use Rattle.std.specs.Prelude.{Result, Ok, Err}
use Rattle.expr.specs.Outcome.{given}
use Rattle.expr.specs.Inner.{usable_operand, allowed, after, operand_value_in, row_for, row_of, row_by, Made, row_made, known_made, decided, node_said, edge_list, appended, recorded_if_room}
use Rattle.expr.specs.declared.recording.NewNode.{NewNode}
use Rattle.expr.specs.declared.operations.Supplied.{Supplied}

abbrev Outcome : Type 0
Outcome = Answer floats × Machine floats

-- ---- the rows of the table: an operation that uses the left operand alone has no right partial, and one that uses both has both

abbrev Side : Bool → Option Float → Option Float → Type 0
Side true p none = Unit {0}
Side true p (some q) = ⊥
Side false (some p) (some q) = Unit {0}
Side false none q = ⊥
Side false (some p) none = ⊥

abbrev Sided : ℕ → List (Row floats) → Type 0
Sided k [] = Unit {0}
Sided k (s ∷ ss) = Side (one_sided k) s.left s.right × Sided (suc k) ss

sided : (k : ℕ) (ss : List (Row floats)) (op : ℕ) → op < length ss → Sided k ss → let s = get_or ss op (row nan none none) in Side (one_sided (k + op)) s.left s.right
sided k [] op h f = absurd (omega arith)
sided k (s ∷ ss) zero h f = rw (add-zero k) f.0
sided k (s ∷ ss) (suc op) h f =
    let e : suc k + op ≡ k + suc op = omega arith in
    let s' = get_or ss op (row nan none none) in
    subst (λ n. Side (one_sided n) s'.left s'.right) e (sided (suc k) ss op (omega arith) f.1)

stored : (b : Bool) (p q : Option Float) → Side b p q → Side b (as_stored floats p) (as_stored floats q)
stored true p none f = tt
stored true p (some q) f = f
stored false none q f = f
stored false (some p) none f = f
stored false (some p) (some q) f = tt

sides : (op : ℕ) (l r : Float) (g : Supplied) → known op ≡ true → let s = apply {N = floats} op l r (given g) in Side (one_sided op) s.left s.right
sides op l r g k =
    let s = get_or (rows {N = floats} l r (given g)) op (row nan none none) in
    stored (one_sided op) s.left s.right (subst (λ n. Side (one_sided n) s.left s.right) (zero-add op) (sided 0 (rows {N = floats} l r (given g)) op (ltb-true op 11 k) (tt, (tt, (tt, (tt, (tt, (tt, (tt, (tt, (tt, (tt, (tt, tt)))))))))))))

-- ---- operands

abbrev refusal_in : Result (Unit {0}) Refusal → Option Refusal
refusal_in (Ok u) = none
refusal_in (Err r) = some r

module _ (M : Machine floats) where
  -- what `decide` answers, carried on
  abbrev carried_on : Result Made Refusal → Outcome
  carried_on (Ok m) = recorded_if_room M m.0 m.1
  carried_on (Err r) = (refused r, M)

  abbrev usage : Operand → Result (Unit {0}) Refusal
  usage o = usable_operand M.state M.lent.serial o

  operand_value_so : (o : Operand) → operand_value_in M.lent.value o ≡ operand_value M (operand o)
  operand_value_so (Number x) = refl
  operand_value_so (Node h) = refl

  no_partial : (o : Operand) → edge (operand o) none ≡ []
  no_partial (Number x) = refl
  no_partial (Node h) = refl

  allowed_so : (u : Result (Unit {0}) Refusal) (m : Made) → carried_on (allowed u m) ≡ unless (refusal_in u) M (recorded_if_room M m.0 m.1)
  allowed_so (Ok u) m = refl
  allowed_so (Err r) m = refl

  both_so : (u w : Result (Unit {0}) Refusal) (m : Made) → carried_on (after u (allowed w m)) ≡ unless (refusal_in (after u w)) M (recorded_if_room M m.0 m.1)
  both_so (Ok u) w m = allowed_so w m
  both_so (Err r) w m = refl

  any_one : (o : Operand) → first_amiss M (handles (operand o ∷ [])) ≡ refusal_in (usage o)
  any_one (Number x) = refl
  any_one (Node h) = alone (live M h) (amiss M.state h) where
    alone : (b : Bool) (r : Refusal) → cond b none (some r) ≡ refusal_in (cond b (Ok tt) (Err r))
    alone true r = refl
    alone false r = refl

  any_two : (l r : Operand) → first_amiss M (handles (operand l ∷ operand r ∷ [])) ≡ refusal_in (after (usage l) (usage r))
  any_two (Number x) r = any_one r
  any_two (Node h) r = rw (any_one r) (both (live M h) (amiss M.state h)) where
    both : (b : Bool) (q : Refusal) → cond b (refusal_in (usage r)) (some q) ≡ refusal_in (after (cond b (Ok tt) (Err q)) (usage r))
    both true q = refl
    both false q = refl

  -- the node that live operands make
  abbrev made : ℕ → Operand → Operand → Supplied → Outcome
  made op l r g = let s = apply op (operand_value M (operand l)) (operand_value M (operand r)) (given g) in recorded_if_room M s.value (edges (operand l) (operand r) s)

  -- a row of the table that is known, by its partials
  row_so : (b : Bool) (l r : Operand) (v : Float) (p q : Option Float) → Side b p q →
      carried_on (row_made (row_by v p q) (usage l) (usage r) l r)
      ≡ unless (first_amiss M (handles (cond b (operand l ∷ []) (operand l ∷ operand r ∷ [])))) M (recorded_if_room M v (edge (operand l) p ++ edge (operand r) q))
  row_so true l r v none none f = rw (any_one l, no_partial l, no_partial r) (allowed_so (usage l) (v, []))
  row_so true l r v (some p) none f = rw (any_one l, no_partial r, append-nil (edge (operand l) (some p))) (allowed_so (usage l) (v, edge (operand l) (some p)))
  row_so true l r v p (some q) f = absurd f
  row_so false l r v (some p) (some q) f = rw (any_two l r) (both_so (usage l) (usage r) (v, edge (operand l) (some p) ++ edge (operand r) (some q)))
  row_so false l r v none q f = absurd f
  row_so false l r v (some p) none f = absurd f

  abbrev rule : ℕ → Operand → Operand → Supplied → Outcome
  rule op l r g = unless (when (not (known op)) UnknownOperation) M (unless (first_amiss M (handles (used op (operand l) (operand r)))) M (made op l r g))

  abbrev by_values : ℕ → Operand → Operand → Supplied → Float → Float → Outcome
  by_values op l r g x y = carried_on (known_made (row_of (known op) (apply op x y (given g))) (usage l) (usage r) l r)

  rule_so : (op : ℕ) (l r : Operand) (g : Supplied) → carried_on (known_made (row_for M.lent.value op l r g) (usage l) (usage r) l r) ≡ rule op l r g
  rule_so op l r g = ap (λ x. by_values op l r g x (operand_value_in M.lent.value r)) (operand_value_so l) ∙ ap (by_values op l r g (operand_value M (operand l))) (operand_value_so r) ∙ by_known (known op) refl where
    by_known : (k : Bool) → known op ≡ k → by_values op l r g (operand_value M (operand l)) (operand_value M (operand r)) ≡ rule op l r g
    by_known true k = let s = apply op (operand_value M (operand l)) (operand_value M (operand r)) (given g) in rw k (row_so (one_sided op) l r s.value s.left s.right (sides op (operand_value M (operand l)) (operand_value M (operand r)) g k))
    by_known false k = rw k

-- ---- room

-- refusals 5 and 6, as the table has them and as the code goes about them
room_so : (M : Machine floats) (v : Float) (es : List (Edge floats)) (a b d : Bool)
    → unless (first (none ∷ when (a && b) Full ∷ when (a && d) SerialsSpent ∷ none ∷ none ∷ [])) M (cond a (appended M v es) (detached v, M))
    ≡ cond a (cond b (refused Full, M) (cond d (refused SerialsSpent, M) (appended M v es))) (detached v, M)
room_so M v es true true d = refl
room_so M v es true false true = refl
room_so M v es true false false = refl
room_so M v es false b d = refl

-- the four rows that a recording can meet behind its shape, over whatever the first two give; the others ask nothing of it
rows_so : (M : Machine floats) (o q : Option Refusal) (v : Float) (es : List (Edge floats)) (a b d : Bool)
    → unless (first (o ∷ q ∷ none ∷ when (a && b) Full ∷ when (a && d) SerialsSpent ∷ none ∷ none ∷ [])) M (cond a (appended M v es) (detached v, M))
    ≡ unless o M (unless q M (cond a (cond b (refused Full, M) (cond d (refused SerialsSpent, M) (appended M v es))) (detached v, M)))
rows_so M none none v es a b d = room_so M v es a b d
rows_so M none (some r) v es a b d = refl
rows_so M (some r) q v es a b d = refl

step_so : (M : Machine floats) (op : ℕ) (l r : Operand) (g : Supplied) → let_in caller.Recording M ≡ none
    → step (operate op (operand l) (operand r) (given g)) M
    ≡ unless (when (not (known op)) UnknownOperation) M (unless (first_amiss M (handles (used op (operand l) (operand r)))) M (made M op l r g))
unfolding step
step_so M op l r g e =
    let s = apply op (operand_value M (operand l)) (operand_value M (operand r)) (given g) in
    rw e
    (rows_so M (when (not (known op)) UnknownOperation) (first_amiss M (handles (used op (operand l) (operand r)))) s.value (edges (operand l) (operand r) s) M.state.active (eqb M.state.length (capacity M.lent)) (eqb M.state.next last_serial))

-- what `decide` answers, carried on, is the step
module _ (M : Machine floats) (op : ℕ) (l r : Operand) (g : Supplied) where
  steps : carried_on M (decided M op l r g) ≡ step (operate op (operand l) (operand r) (given g)) M
  unfolding step
  steps = by_door (let_in caller.Recording M) refl where
    by_door : (o : Option Refusal) → let_in caller.Recording M ≡ o → carried_on M (decided M op l r g) ≡ step (operate op (operand l) (operand r) (given g)) M
    by_door none e = rw (step_so M op l r g e) (rw e (rule_so M op l r g))
    by_door (some k) e = rw e

  -- as the code has it
  module _ (x : Result NewNode Refusal) (e : node_said x ≡ decided M op l r g) where
    pub refused_by : (k : Refusal) → x ≡ Err k → (refused k, M) ≡ step (operate op (operand l) (operand r) (given g)) M
    refused_by k h = ap (λ x. carried_on M (node_said x)) (sym h) ∙ ap (carried_on M) e ∙ steps

    pub made_by : (n : NewNode) → x ≡ Ok n → recorded_if_room M n.value (edge_list n.edges) ≡ step (operate op (operand l) (operand r) (given g)) M
    made_by n h = ap (λ x. carried_on M (node_said x)) (sym h) ∙ ap (carried_on M) e ∙ steps
