-- A session that runs resolves to one that fits: what follows from none of its calls being refused.
use Prim.Native.Nat.{ℕ, suc, ◌+◌, zero-le}
use native.Mathlib.Nat.{add-zero, add-suc, suc-add, zero-add}
use native.Mathlib.Omega.{arith}
use mathlib.Core.Path.{◌≡◌, refl}
use mathlib.Core.Bool.{Bool, true, false, cond}
use mathlib.Core.Option.{none}
use mathlib.Core.List.{List, [], ◌∷◌, ◌++◌, map}
use borrow.Author.Tests.{ltb-true, ltb-false, eqb-false, not-false}
use lib.Dec.{ltb}
use lib.ListN.{length, length-map}
use Rattle.tape.specs.Numbers.{Numbers}
use Rattle.tape.specs.Machine.{Arrays, Machine, capacity, most_nodes}
use Rattle.tape.specs.Handles.{Operand, plain, node, handles}
use Rattle.tape.specs.Operations.{one_sided}
use Rattle.tape.specs.Calls.{Call, move, start, set_mark, rewind_to_mark, operate, clear, pass, slice, backward_to_mark, propagate_mark_to_start, carried}
use Rattle.tape.specs.Refusals.{first_amiss, last_serial}
use Rattle.tape.specs.Steps.{step, run}
use Rattle.tape.specs.Kept.{after}
use Rattle.tape.specs.Passes.{Unrefused}
use Rattle.tape.proofs.Passes.{Accepted, accepted}
use Rattle.tape.proofs.Steps.{Passed, shape, known, all_live, serial, first_live}
use Rattle.tape.proofs.Tests.{by_test, Fit, fit, state_fit_so}
use Rattle.revolutions.specs.Revolutions.{Operation, Revolution, Session, number, resolve_operand, resolve_operation, resolve_revolution, ResolvedSession, resolve, recordings, revolution_calls, calls, AtOrPast, RunsAs}
use Rattle.revolutions.proofs.Runs.{unrefused_parts, session_from_start}
use Rattle.revolutions.proofs.Fitting.{Placed, Proper, AllProper, AllTurns, recorded_by, Spared, Fitting}
use Rattle.revolutions.proofs.Standing.{Stands, started, recorded, marked, cleared, walked, rewound}

-- ---- one operation

-- a branch taken twice is taken once
twice : {A : Type 0} (b : Bool) (x y : A) → cond b x (cond b x y) ≡ cond b x y
twice true x y = refl
twice false x y = refl

-- behind a model of m nodes, with j own nodes
module _ {N : Numbers} (L : Machine N) (m j : ℕ) (nodes : L.state.length ≡ m + j) where
  -- a live handle's node stands before the one to be recorded
  placed : (o : Operand N) (os : List (Operand N)) → first_amiss L (handles (o ∷ os)) ≡ none → Placed m j (resolve_operand m o) × (first_amiss L (handles os) ≡ none)
  placed (plain x) os e = (tt, e)
  placed (node h) os e =
      let (l, others) = first_live L h (handles os) e in
      (by_test (Placed m j) (ltb h.index m) (ltb-true _ _) (λ t. omega (arith, ltb-false h.index m t)), others)

  -- and so do those of the operands that an operation uses
  both_placed : (alone : Bool) (left right : Operand N) → first_amiss L (handles (cond alone (left ∷ []) (left ∷ right ∷ []))) ≡ none
      → Placed m j (resolve_operand m left) × Placed m j (cond alone (number N.nought) (resolve_operand m right))
  both_placed true left right e = ((placed left [] e).0, tt)
  both_placed false left right e = let l = placed left (right ∷ []) e in (l.0, (placed right [] l.1).0)

  -- an operation that is not refused
  proper : (o : Operation N) → let c = operate o.operation o.left o.right o.supplied in Accepted c L (step c L) → Proper m j (resolve_operation m o)
  proper o a =
      let both = both_placed (one_sided o.operation) o.left o.right (all_live a.passed) in
      record { operation = not-false _ (known a.passed); left = both.0; right = both.1; unused = twice (one_sided o.operation) _ _ }

-- ---- operations one after another

-- what follows for these operations, from place j on, and where they lead
pub record FromRun {N : Numbers} (A : Arrays N) (m first k j : ℕ) (os : List (Operation N)) (L : Machine N) : Type 0 where
  pub operations : AllProper m j (map (resolve_operation m) os)
  pub serials : Spared (k + j) (length os)
  pub stands : Stands A m first k (j + length os) (after (recordings os) L)

module _ {N : Numbers} {A : Arrays N} {m first k : ℕ} where
  pub from_run : (os : List (Operation N)) (j : ℕ) (L : Machine N) → Stands A m first k j L → Unrefused (run (recordings os) L).0 → FromRun A m first k j os L
  from_run [] j L s u = record { operations = tt; serials = λ h. omega arith; stands = rw add-zero s }
  from_run (o ∷ os) j L s (u, us) =
      let a = accepted (operate o.operation o.left o.right o.supplied) L u in
      let rest = from_run os (suc j) _ (recorded s o.operation o.left o.right o.supplied a) us in
      let spent : L.state.next ≡ last_serial → ⊥ = eqb-false _ _ (rw s.active at (serial a.passed)) in
      record {
        operations = (proper L m j s.counted.nodes o a, rest.operations);
        serials = λ h. omega (arith, rest.serials (omega arith));
        stands = rw (add-suc, ← suc-add) rest.stands;
      }

-- ---- revolutions one after another

module _ {N : Numbers} {A : Arrays N} {m first : ℕ} where
  -- each revolution has room and a root of its own, and none is given the last serial
  from_runs : (rs : List (Revolution N)) (k : ℕ) (L : Machine N) → Stands A m first k 0 L → AtOrPast m rs → Unrefused (run (revolution_calls rs) L).0
      → AllTurns (capacity A) m (map (resolve_revolution m) rs) × Spared k (recorded_by (map (resolve_revolution m) rs))
  from_runs [] k L s roots u = (tt, λ h. omega arith)
  from_runs (r ∷ rs) k L s (root, roots) u =
      let os = r.operations in
      let back = pass (backward_to_mark (node r.root)) in
      let (first_part, (p, (w, rest))) = unrefused_parts (recordings os) (back ∷ move rewind_to_mark ∷ revolution_calls rs) L u in
      let t = from_run os 0 L s first_part in
      let L₁ = after (recordings os) L in
      let s₁ = t.stands in
      let a = accepted back L₁ p in
      let alive = (first_live L₁ r.root [] (all_live a.passed)).0 in
      let n = length-map os (resolve_operation m) in
      let more = from_runs rs _ _ (rewound (walked s₁ _ a) (accepted (move rewind_to_mark) (step back L₁).1 w)) roots rest in
      ((record { operations = t.operations; room = omega arith; root = omega arith }, more.0), λ h. omega (arith, more.1 (omega (arith, t.serials (omega arith)))))

-- ---- the session

-- with its calls in one go
fitting : {N : Numbers} (s : Session N) (M : Machine N) → AtOrPast (length s.model) s.revolutions → Unrefused (run (calls s) M).0 → Fitting M (resolve s)
fitting s M roots (u, us) =
    let os = s.model in
    let a = accepted (move start) M u in
    let M₁ = (step (move start) M).1 in
    let (model, (v, (w, rest))) = unrefused_parts (recordings os) (move set_mark ∷ clear ∷ revolution_calls s.revolutions ++ (pass propagate_mark_to_start ∷ [])) M₁ us in
    let t = from_run os 0 M₁ (started M a) model in
    let M₂ = after (recordings os) M₁ in
    let M₃ = (step (move set_mark) M₂).1 in
    let b = accepted clear M₃ w in
    let s₃ = marked (rw zero-add at t.stands) (accepted (move set_mark) M₂ v) in
    let f = fit M₃ (shape b.passed) in
    let more = from_runs s.revolutions _ _ (cleared s₃ b) roots (unrefused_parts (revolution_calls s.revolutions) (pass propagate_mark_to_start ∷ []) (step clear M₃).1 rest).0 in
    let n = length-map os (resolve_operation 0) in
    record {
      state = shape a.passed;
      arrays = record {
        small = omega arith;
        adjoint = omega arith;
        serial = omega arith;
        count = omega arith;
        child = omega arith;
        partial = omega arith;
        state = record { length = zero-le; mark = zero-le; next = omega arith; walk = refl };
      };
      model = t.operations;
      room = omega arith;
      revolutions = rw n more.0;
      serials = λ h. omega (arith, more.1 (omega (arith, t.serials (omega arith))));
    }

-- before the start there may be slices of a walk that was open
over_a_slice : {N : Numbers} (resolved : ResolvedSession N) (n : ℕ) (L : Machine N) → Passed (slice n) L → Fitting (carried (slice n) L).1 resolved → Fitting L resolved
over_a_slice resolved n L p f =
    let g : Fit L = fit L (shape p) in
    record {
      state = state_fit_so most_nodes L.state (record { length = omega arith; mark = omega arith; next = g.state.next; walk = g.state.walk });
      arrays = record { small = g.small; adjoint = g.adjoint; serial = g.serial; count = g.count; child = g.child; partial = g.partial; state = record { length = zero-le; mark = zero-le; next = g.state.next; walk = refl } };
      model = f.model;
      room = f.room;
      revolutions = f.revolutions;
      serials = f.serials;
    }

-- with reads among them, and passes cut
pub runs_fitting : {N : Numbers} (s : Session N) (cs : List (Call N)) (M : Machine N) → RunsAs s cs M → Fitting M (resolve s)
runs_fitting s cs M p =
    let f = session_from_start s cs M p in
    f.back (λ L. Fitting L (resolve s)) (over_a_slice (resolve s)) (fitting s f.found p.roots f.left.unrefused)
