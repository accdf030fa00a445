-- The session that was chosen for a resolved one that fits is not refused.
use Prim.Native.Nat.{ℕ, suc, ◌+◌, ◌≤◌, ◌<◌}
use native.Mathlib.Nat.{zero-add}
use native.Mathlib.Omega.{arith}
use mathlib.Core.Path.{◌≡◌, refl, sym, subst}
use mathlib.Core.Bool.{Bool, true, false, cond}
use mathlib.Core.List.{List, [], ◌∷◌, ◌++◌, map, append_assoc}
use mathlib.Core.Option.{none}
use borrow.Author.Tests.{ne_eqb}
use lib.ListN.{length, get_or, length-map}
use Rattle.tape.specs.Numbers.{Numbers}
use Rattle.tape.specs.Machine.{Arrays, Machine, machine, capacity, most_nodes}
use Rattle.tape.specs.Handles.{Operand, live, handles, any_plain}
use Rattle.tape.specs.Operations.{one_sided}
use Rattle.tape.specs.Calls.{Move, move, start, stop, set_mark, reset_mark, rewind_to_mark, rewind_to_init, operate, clear, Pass, pass, backward_to_mark, propagate_mark_to_start, plan}
use Rattle.tape.specs.Admission.{fits, while_closed, in_turn, slice_fits}
use Rattle.tape.specs.Refusals.{mover, first_amiss, last_serial}
use Rattle.tape.specs.Steps.{step, run}
use Rattle.tape.specs.Kept.{after}
use Rattle.tape.specs.Passes.{Unrefused}
use Rattle.tape.specs.declared.admission.Caller.{Caller}
use Rattle.tape.specs.declared.admission.Caller.TheVariants as caller
use Rattle.tape.specs.declared.tape.Tape.{Tape}
use Rattle.tape.specs.Machine.{Walk}
use Rattle.std.specs.Prelude.{None, Some}
use Rattle.tape.proofs.Passes.{Accepted, passes, answers, range_sound}
use Rattle.tape.proofs.Steps.{mover_unlent, lives_so}
use Rattle.tape.proofs.Tests.{Fit, refits, state_fit_so}
use Rattle.revolutions.specs.Revolutions.{ResolvedOperand, in_model, own, number, ResolvedOperation, ResolvedRevolution, ResolvedSession, recordings, revolution_calls, calls}
use Rattle.revolutions.specs.Trading.{Runnable}
use Rattle.revolutions.proofs.Runs.{unrefused_append, session_over}
use Rattle.revolutions.proofs.Fitting.{Placed, Proper, AllProper, AllTurns, recorded_by, Spared, Fitting}
use Rattle.revolutions.proofs.Standing.{Stands, stands_fit, started, recorded, marked, cleared, walked, rewound}
use Rattle.revolutions.proofs.FromRun.{from_run}
use Rattle.revolutions.proofs.Chosen.{operand, operation, revolutions, session, nothing_cut, roots, resolves}

-- ---- one call

-- a move tests the state alone, and whether a walk is open
pub moves_so : {N : Numbers} (c : Move) (L : Machine N) → fits false L ≡ true → in_turn L.state.walk (mover c) ≡ true → Accepted (move c) L (step (move c) L)
moves_so c L shape turn = passes (move c) L (rw (mover_unlent c, shape, turn, no_slice c)) where
  no_slice : (m : Move) → slice_fits (mover m) ≡ true
  no_slice start = refl
  no_slice stop = refl
  no_slice set_mark = refl
  no_slice reset_mark = refl
  no_slice rewind_to_mark = refl
  no_slice rewind_to_init = refl

-- each may come while none is, and a start while one is too
may_come : (m : Move) → while_closed (mover m) ≡ true
may_come start = refl
may_come stop = refl
may_come set_mark = refl
may_come reset_mark = refl
may_come rewind_to_mark = refl
may_come rewind_to_init = refl

start_turn : (w : Walk) → in_turn w (mover start) ≡ true
start_turn None = refl
start_turn (Some s) = refl

module _ {N : Numbers} {A : Arrays N} {m first k j : ℕ} {L : Machine N} {t : Tape} (f : Fit (machine t A)) (s : Stands A m first k j L) where
  -- on such a machine every call is in its turn but a slice, and no move is refused
  turn : (c : Caller) → while_closed c ≡ true → in_turn L.state.walk c ≡ true
  turn c e = subst (λ w. in_turn w c ≡ true) (sym s.over) e

  moves : (c : Move) → Accepted (move c) L (step (move c) L)
  moves c =
      let g = stands_fit s f in
      moves_so c L (state_fit_so most_nodes L.state (record { length = omega arith; mark = omega arith; next = g.state.next; walk = g.state.walk })) (turn (mover c) (may_come c))

  -- a call that is lent the arrays is not refused for its shape
  lent_fits : fits true L ≡ true
  lent_fits = let g = stands_fit s f in refits L L.state g g.state

  clears : Accepted clear L (step clear L)
  clears = passes clear L (rw (lent_fits, turn caller.Clearing refl))

  walks : (p : Pass N) → first_amiss L (handles (plan p L.state).root) ≡ none → any_plain (plan p L.state).root ≡ false → Accepted (pass p) L (step (pass p) L)
  walks p root standing =
      passes (pass p) L (rw (lent_fits, turn caller.Passing refl, root, standing, range_sound L s.sound (pass p) (rw (lent_fits, turn caller.Passing refl)) root))

  -- a handle with the serial that is stored at its index
  alive : (i n : ℕ) → i < m + j → 0 < n → get_or L.lent.serial i 0 ≡ n → live L (record { index = i; serial = n }) ≡ true
  alive i n below issued same = lives_so _ L.lent.serial _ (record { below = omega arith; serial = λ e. omega arith; same = same })

  -- the handles that were chosen for operands that stand before an operation are live
  operand_lives : (x : ResolvedOperand N) (os : List (Operand N)) → Placed m j x → first_amiss L (handles os) ≡ none → first_amiss L (handles (operand m first k x ∷ os)) ≡ none
  operand_lives (in_model i) os h e = rw (alive i (first + i) (omega arith) (omega arith) (s.models i h)) e
  operand_lives (own i) os h e = rw (alive (m + i) (k + i) (omega arith) (omega arith) (s.owns i h)) e
  operand_lives (number x) os h e = e

  -- and so are those of the operands that an operation uses
  both_live : (alone : Bool) (x y : ResolvedOperand N) → Placed m j x → Placed m j y → first_amiss L (handles (cond alone (operand m first k x ∷ []) (operand m first k x ∷ operand m first k y ∷ []))) ≡ none
  both_live true x y p q = operand_lives x [] p refl
  both_live false x y p q = operand_lives x (operand m first k y ∷ []) p (operand_lives y [] q refl)

  -- an operation that is proper is recorded where there is room and a serial
  operates : (d : ResolvedOperation N) → Proper m j d → m + j < capacity A → (k + j ≡ last_serial → ⊥)
      → let c = operate d.operation (operand m first k d.left) (operand m first k d.right) d.supplied in Accepted c L (step c L)
  operates d p room spared =
      passes _ L
      (rw
      (lent_fits, turn caller.Recording refl, p.operation, both_live (one_sided d.operation) d.left d.right p.left p.right, s.active, ne_eqb L.state.length (capacity L.lent) (λ e. omega arith), ne_eqb L.state.next last_serial (λ e. spared (omega arith))))

-- ---- operations one after another, and revolutions

module _ {N : Numbers} {A : Arrays N} {t : Tape} (f : Fit (machine t A)) (m first : ℕ) where
  -- operations from place j on
  operations_run : (k j : ℕ) (ds : List (ResolvedOperation N)) (L : Machine N) → Stands A m first k j L → AllProper m j ds → m + j + length ds ≤ capacity A → Spared (k + j) (length ds)
      → Unrefused (run (recordings (map (operation m first k) ds)) L).0
  operations_run k j [] L s p room spared = tt
  operations_run k j (d ∷ ds) L s (p, ps) room spared =
      let a = operates f s d p (omega arith) (λ e. omega (arith, spared (omega arith))) in
      (answers a, operations_run k (suc j) ds _ (recorded s _ _ _ _ a) ps (omega arith) (λ h. omega (arith, spared (omega arith))))

  -- from the first place on, and where that leads
  all_run : (k : ℕ) (ds : List (ResolvedOperation N)) (L : Machine N) → let cs = recordings (map (operation m first k) ds) in
      Stands A m first k 0 L → AllProper m 0 ds → m + length ds ≤ capacity A → Spared k (length ds) → Unrefused (run cs L).0 × Stands A m first k (length ds) (after cs L)
  all_run k ds L s p room spared =
      let unrefused = operations_run k 0 ds L s p (omega arith) (λ h. omega (arith, spared (omega arith))) in
      (unrefused, rw (zero-add, length-map) at (from_run (map (operation m first k) ds) 0 L s unrefused).stands)

  -- revolutions, and the last pass
  revolutions_run : (k : ℕ) (ts : List (ResolvedRevolution N)) (L : Machine N) → Stands A m first k 0 L → AllTurns (capacity A) m ts → Spared k (recorded_by ts)
      → Unrefused (run (revolution_calls (revolutions m first k ts) ++ (pass propagate_mark_to_start ∷ [])) L).0
  revolutions_run k [] L s p spared = (answers (walks f s propagate_mark_to_start refl refl), tt)
  revolutions_run k (u ∷ ts) L s (p, ps) spared =
      let (unrefused, s₁) = all_run k u.operations L s p.operations p.room (λ h. omega (arith, spared h)) in
      let a = walks f s₁ (backward_to_mark (operand m first k (own u.root))) (operand_lives f s₁ (own u.root) [] p.root refl) refl in
      let s₂ = walked s₁ _ a in
      let b = moves f s₂ rewind_to_mark in
      let rest = revolutions_run (k + length u.operations) ts _ (rewound s₂ b) ps (λ h. omega (arith, spared (omega arith))) in
      rw append_assoc (unrefused_append (recordings (map (operation m first k) u.operations)) _ L unrefused (answers a, (answers b, rest)))

-- ---- the session

module _ {N : Numbers} (M : Machine N) (resolved : ResolvedSession N) (f : Fitting M resolved) where
  session_runs : Unrefused (run (calls (session M resolved)) M).0
  session_runs =
      let k = M.state.next in
      let m = length resolved.model in
      let a = moves_so start M f.state (start_turn M.state.walk) in
      let (unrefused, s₁) = all_run f.arrays 0 k k resolved.model _ (started M a) f.model (omega arith) (λ h. omega (arith, f.serials h)) in
      let b = moves f.arrays s₁ set_mark in
      let s₂ = marked s₁ b in
      let c = clears f.arrays s₂ in
      let rest = revolutions_run f.arrays m k (k + m) resolved.revolutions _ (cleared s₂ c) f.revolutions (λ h. omega (arith, f.serials (omega arith))) in
      (answers a, unrefused_append (recordings (map (operation 0 k k) resolved.model)) _ _ unrefused (answers b, (answers c, rest)))

  pub another : Runnable M resolved
  another =
      record {
        session = session M resolved;
        runs = record { session = nothing_cut (session M resolved); unrefused = session_runs; over = session_over (session M resolved) M session_runs.0; roots = roots M resolved };
        resolves = resolves M resolved f;
      }
