-- What a step does. Everything is read off `step`'s table of refusals and off `carried`.
use Prim.Native.Nat.{ℕ, suc, ◌+◌, ◌≤◌, ◌<◌, zero-le}
use native.Mathlib.Nat.{le_refl}
use native.Mathlib.Omega.{arith}
use native.Mathlib.Decide.{dec_lt}
use mathlib.Core.Path.{◌≡◌, refl, sym, ap, subst, ◌∙◌}
use mathlib.Core.Bool.{Bool, true, false, not, ◌&&◌, cond, true≢false}
use mathlib.Core.List.{List, [], ◌∷◌, ◌++◌, map, append-nil}
use mathlib.Core.Option.{Option, none, some, some-injective}
use borrow.Author.Tests.{ltb-true, eqb-true, eqb-false, lt-ltb, eq-eqb, ne_eqb, not-true, not-false}
use lib.Dec.{ltb, eqb}
use lib.ListN.{length, get_or}
use Rattle.tape.specs.Numbers.{Numbers}
use Rattle.tape.specs.Machine.{Machine, arrays, machine, capacity, all, most_nodes, most_edges}
use Rattle.tape.specs.Handles.{Operand, plain, node, live, never_issued, amiss, any_plain, operand_value, handles, lives}
use Rattle.tape.specs.Operations.{Given, apply, one_sided}
use Rattle.tape.specs.Walk.{Edge, sound}
use Rattle.tape.specs.Answers.{Answer, answer, refused, recorded}
use Rattle.tape.specs.Calls.{Move, start, stop, set_mark, reset_mark, rewind_to_mark, rewind_to_init, Call, move, operate, clear, pass, open_pass, slice, value_of, adjoint_of, is_live, list, edge, edges, issued, written, carried}
use Rattle.tape.specs.Admission.{lengths, is_lent, fitting, fits, while_open, in_turn, slice_fits, head_tests, admission, admitted, let_in, when, first}
use Rattle.tape.specs.Refusals.{Asked, too_long, mover, asked, refusals, refusal_of, unknown, first_amiss, would_record, last_serial}
use Rattle.tape.specs.Steps.{unless, step}
use Rattle.tape.specs.Kept.{after}
use Rattle.tape.specs.Issued.{first_not_live}
use Rattle.tape.proofs.Tests.{by_test, by_or, every, Fit, fit, state_fit}
use Rattle.tape.specs.declared.errors.Refusal.{Refusal}
use Rattle.tape.specs.declared.errors.Refusal.TheVariants.{Misshapen, UnknownOperation, Stale, Detached, Full, SerialsSpent, UnsoundEdge, ListingTooLong, NeverIssued, OutOfTurn, UnfitSlice}
use Rattle.tape.specs.declared.admission.Caller.{Caller}
use Rattle.tape.specs.declared.admission.Lengths.{Lengths}
use Rattle.tape.specs.declared.node.Handle.{Handle}
use Rattle.tape.specs.declared.tape.Tape.{Tape}
use Rattle.tape.specs.Machine.{Walk}
use Rattle.std.specs.Prelude.{None, Some, Result, Ok, Err}

-- ---- the first row that refuses

-- no row refuses: each of them gives none
pub record Passed {N : Numbers} (c : Call N) (M : Machine N) : Type 0 where
  pub none_refuses : refusal_of c M ≡ none

-- a step is the first refusal of the table, or what the call does where there is none
pub by_refusal : {N : Numbers} (P : Answer N × Machine N → Type 0) (c : Call N) (M : Machine N) → ((r : Refusal) → refusal_of c M ≡ some r → P (refused r, M)) → (Passed c M → P (carried c M)) → P (step c M)
unfolding step
by_refusal {N} P c M hit passed = by_cases (refusal_of c M) refl where
  by_cases : (o : Option Refusal) → refusal_of c M ≡ o → P (unless o M (carried c M))
  by_cases none e = passed (record { none_refuses = e })
  by_cases (some r) e = hit r e

abbrev AllNone : List (Option Refusal) → Type 0
AllNone [] = Unit {0}
AllNone (o ∷ os) = (o ≡ none) × AllNone os

pub not_some : {A P : Type 0} {x : A} → some x ≡ none → P
not_some e = let z : ◌≡◌ {A = ℕ} 0 1 = cc in absurd (omega arith)

all_none : (os : List (Option Refusal)) → first os ≡ none → AllNone os
all_none [] e = tt
all_none (none ∷ os) e = (refl, all_none os e)
all_none (some r ∷ os) e = not_some e

pub unhit : (b : Bool) (r : Refusal) → when b r ≡ none → b ≡ false
unhit true r e = not_some e
unhit false r e = refl

-- what is let in fits, and comes in its turn
module _ (k : Caller) (n : Lengths) (t : Tape) (e : admission k n t ≡ none) where
  head : AllNone (head_tests k n t)
  head = all_none (head_tests k n t) e

  pub let_in_fits : fitting (is_lent k) n t ≡ true
  let_in_fits = not-false _ (unhit _ _ head.0)

  pub let_in_turn : in_turn t.walk k ≡ true
  let_in_turn = not-false _ (unhit _ _ head.1.0)

pub granted_shape : {N : Numbers} (k : Caller) (M : Machine N) → let_in k M ≡ none → fits (is_lent k) M ≡ true
granted_shape k M e = let_in_fits k (lengths M.lent) M.state e

-- a call that is not answered while a walk is open comes while none is
pub closed_for : (k : Caller) (w : Walk) → while_open k ≡ false → in_turn w k ≡ true → w ≡ None
closed_for k None e t = refl
closed_for k (Some s) e t = absurd (true≢false (sym t ∙ e))

pub mover_unlent : (m : Move) → is_lent (mover m) ≡ false
mover_unlent start = refl
mover_unlent stop = refl
mover_unlent set_mark = refl
mover_unlent reset_mark = refl
mover_unlent rewind_to_mark = refl
mover_unlent rewind_to_init = refl

-- what follows from each row that gives none, in the table's order
module _ {N : Numbers} {c : Call N} {M : Machine N} (p : Passed c M) where
  rows : AllNone (refusals (asked c M.state) M)
  rows = all_none (refusals (asked c M.state) M) p.none_refuses

  pub granted : let_in (asked c M.state).caller M ≡ none
  granted = rows.0

  pub shape : fits (is_lent (asked c M.state).caller) M ≡ true
  shape = granted_shape (asked c M.state).caller M granted

  pub closed : while_open (asked c M.state).caller ≡ false → M.state.walk ≡ None
  closed e = closed_for (asked c M.state).caller M.state.walk e (let_in_turn (asked c M.state).caller (lengths M.lent) M.state granted)

  pub known : unknown (asked c M.state).operation ≡ false
  known = unhit _ _ rows.1.0

  pub all_live : first_amiss M (handles (asked c M.state).operands) ≡ none
  all_live = rows.1.1.0

  pub room : would_record (asked c M.state).operation M && eqb M.state.length (capacity M.lent) ≡ false
  room = unhit _ _ rows.1.1.1.1.0

  pub serial : would_record (asked c M.state).operation M && eqb M.state.next last_serial ≡ false
  serial = unhit _ _ rows.1.1.1.1.1.0

  pub sound_range : all (map (sound M.lent) (asked c M.state).range) ≡ true
  sound_range = not-false _ (unhit _ _ rows.1.1.1.1.1.1.0)

-- what holds of each refusal that a row can give behind rows that give none
abbrev Each : (Refusal → Type 0) → List (Option Refusal) → Type 0
Each P [] = Unit {0}
Each P (o ∷ os) = ((r : Refusal) → o ≡ some r → P r) × (o ≡ none → Each P os)

of_first : (P : Refusal → Type 0) (os : List (Option Refusal)) → Each P os → (r : Refusal) → first os ≡ some r → P r
of_first P [] each r e = not_some (sym e)
of_first P (none ∷ os) each r e = of_first P os (each.1 refl) r e
of_first P (some q ∷ os) each r e = each.0 r e

when_gives : (P : Refusal → Type 0) (b : Bool) (q : Refusal) → (b ≡ true → P q) → (r : Refusal) → when b q ≡ some r → P r
when_gives P true q p r e = subst P (some-injective _ _ e) (p refl)
when_gives P false q p r e = not_some (sym e)

amiss_gives : {N : Numbers} (P : Refusal → Type 0) (M : Machine N) (hs : List Handle) → ((h : Handle) → first_not_live M hs ≡ some h → P (amiss M.state h)) → (r : Refusal) → first_amiss M hs ≡ some r → P r
amiss_gives P M [] p r = λ e. not_some (sym e)
amiss_gives P M (h ∷ hs) p r = by_life (live M h) p (λ q. amiss_gives P M hs q r) where
  Deciding : Option Handle → Type 0
  Deciding o = (k : Handle) → o ≡ some k → P (amiss M.state k)

  by_life : (b : Bool) → Deciding (cond b (first_not_live M hs) (some h)) → (Deciding (first_not_live M hs) → first_amiss M hs ≡ some r → P r) → cond b (first_amiss M hs) (some (amiss M.state h)) ≡ some r → P r
  by_life true p others = others p
  by_life false p others = λ e. subst P (some-injective _ _ e) (p h refl)

head_gives : {N : Numbers} (P : Refusal → Type 0) (k : Caller) (M : Machine N) → P Misshapen → (in_turn M.state.walk k ≡ false → P OutOfTurn) → P UnfitSlice → (r : Refusal) → let_in k M ≡ some r → P r
head_gives P k M one twelve thirteen =
    of_first P (head_tests k (lengths M.lent) M.state) (
      when_gives P (not (fits (is_lent k) M)) Misshapen (λ _. one),
      λ _. (
        when_gives P (not (in_turn M.state.walk k)) OutOfTurn (λ e. twelve (not-true _ e)),
        λ _.
            (when_gives P (not (slice_fits k)) UnfitSlice (λ _. thirteen), λ _. tt),
      ),
    )

-- the table, a line a refusal: when it is given, and what is to hold of it then
pub record Gives {N : Numbers} (P : Refusal → Type 0) (q : Asked N) (M : Machine N) : Type 0 where
  pub misshapen : P Misshapen
  pub out_of_turn : in_turn M.state.walk q.caller ≡ false → P OutOfTurn
  pub unfit : P UnfitSlice
  pub unknown : P UnknownOperation
  pub stale : let_in q.caller M ≡ none → (h : Handle) → first_not_live M (handles q.operands) ≡ some h → never_issued M.state h ≡ false → P Stale
  pub never_issued : let_in q.caller M ≡ none → (h : Handle) → first_not_live M (handles q.operands) ≡ some h → never_issued M.state h ≡ true → P NeverIssued
  pub detached : P Detached
  pub full : P Full
  pub spent : P SerialsSpent
  pub unsound : let_in q.caller M ≡ none → first_amiss M (handles q.operands) ≡ none → all (map (sound M.lent) q.range) ≡ false → P UnsoundEdge
  pub too_long : P ListingTooLong

pub by_table : {N : Numbers} (P : Refusal → Type 0) (c : Call N) (M : Machine N) → Gives P (asked c M.state) M → (r : Refusal) → refusal_of c M ≡ some r → P r
by_table P c M g =
    let q = asked c M.state in
    of_first P (refusals q M) (
      head_gives P q.caller M g.misshapen g.out_of_turn g.unfit,
      λ in_so. (
        when_gives P (unknown q.operation) UnknownOperation (λ _. g.unknown),
        λ _. (
          amiss_gives P M (handles q.operands) (λ h e. by_test P (never_issued M.state h) (g.never_issued in_so h e) (g.stale in_so h e)),
          λ all_live. (
            when_gives P (q.on_tape && any_plain q.operands) Detached (λ _. g.detached),
            λ _. (
              when_gives P (would_record q.operation M && eqb M.state.length (capacity M.lent)) Full (λ _. g.full),
              λ _. (
                when_gives P (would_record q.operation M && eqb M.state.next last_serial) SerialsSpent (λ _. g.spent),
                λ _. (
                  when_gives P (not (all (map (sound M.lent) q.range))) UnsoundEdge (λ e. g.unsound in_so all_live (not-true _ e)),
                  λ _.
                      (when_gives P (too_long q.room M) ListingTooLong (λ _. g.too_long), λ _. tt),
                ),
              ),
            ),
          ),
        ),
      ),
    )

pub is_granted : (x : Result (Unit {0}) Refusal) (o : Option Refusal) → x ≡ admitted o → x ≡ Ok tt → o ≡ none
is_granted x none e f = refl
is_granted x (some r) e f = let z : ◌≡◌ {A = ℕ} 0 1 = cc in absurd (omega arith)

pub is_refused : (x : Result (Unit {0}) Refusal) (o : Option Refusal) (r : Refusal) → x ≡ admitted o → x ≡ Err r → o ≡ some r
is_refused x none r e f = let z : ◌≡◌ {A = ℕ} 0 1 = cc in absurd (omega arith)
is_refused x (some q) r e f = let z : q ≡ r = cc in ap some z

-- what the admission refuses, which comes before all others
pub turned_away : {N : Numbers} (c : Call N) (M : Machine N) (x : Result (Unit {0}) Refusal) (r : Refusal) → x ≡ admitted (let_in (asked c M.state).caller M) → x ≡ Err r → (refused r, M) ≡ step c M
unfolding step
turned_away c M x r e f = rw (is_refused x (let_in (asked c M.state).caller M) r e f)

-- a machine that has room for a node
pub record Ready {N : Numbers} (M : Machine N) : Type 0 where
  pub fit : Fit M
  pub room : M.state.length < capacity M.lent

pub ready : {N : Numbers} (M : Machine N) → fits true M ≡ true → eqb M.state.length (capacity M.lent) ≡ false → Ready M
ready M shape room = let f : Fit M = fit M shape in record { fit = f; room = omega (arith, eqb-false M.state.length (capacity M.lent) room) }

-- ---- live handles

pub record Lives (n : ℕ) (ss : List ℕ) (h : Handle) : Type 0 where
  pub below : h.index < n
  pub serial : h.serial ≡ 0 → ⊥
  pub same : get_or ss h.index 0 ≡ h.serial

pub lives_parts : (n : ℕ) (ss : List ℕ) (h : Handle) → lives n ss h ≡ true → Lives n ss h
lives_parts n ss h e =
    let (i, (s, (q, _))) = every (ltb h.index n ∷ not (eqb h.serial 0) ∷ eqb (get_or ss h.index 0) h.serial ∷ []) e in
    record { below = ltb-true _ _ i; serial = eqb-false _ _ (not-true _ s); same = eqb-true _ _ q }

pub lives_so : (n : ℕ) (ss : List ℕ) (h : Handle) → Lives n ss h → lives n ss h ≡ true
lives_so n ss h l = simp (lt-ltb _ _ l.below, ne_eqb _ _ l.serial, eq-eqb _ _ l.same)

-- ---- edges

-- at most k edges, each to a node below n
pub record Edges {N : Numbers} (n k : ℕ) (es : List (Edge N)) : Type 0 where
  pub few : length es ≤ k
  pub below : all (map (λ e. ltb e.child n) es) ≡ true

-- of handles none of which is amiss the first is live, and of the others none is amiss
pub first_live : {N : Numbers} (M : Machine N) (h : Handle) (hs : List Handle) → first_amiss M (h ∷ hs) ≡ none → Lives M.state.length M.lent.serial h × (first_amiss M hs ≡ none)
first_live M h hs = by_test (λ o. o ≡ none → Lives M.state.length M.lent.serial h × (first_amiss M hs ≡ none)) (live M h) (λ l e. (lives_parts _ _ h l, e)) (λ _ e. not_some e)

module _ {N : Numbers} (M : Machine N) where
  edge_ok : (o : Operand N) (p : Option N.Number) (os : List (Operand N)) (es : List (Edge N)) (k : ℕ) → first_amiss M (handles (o ∷ os)) ≡ none → (first_amiss M (handles os) ≡ none → Edges M.state.length k es) → Edges M.state.length (suc k) (edge o p ++ es)
  edge_ok (plain x) p os es k e rest = let r = rest e in record { few = omega arith; below = r.below }
  edge_ok (node h) none os es k e rest = let r = rest (first_live M h (handles os) e).1 in record { few = omega arith; below = r.below }
  edge_ok (node h) (some p) os es k e rest =
      let (l, others) = first_live M h (handles os) e in
      let r = rest others in
      record { few = omega arith; below = rw (lt-ltb _ _ l.below) r.below }

  no_edges : (k : ℕ) → Edges {N = N} M.state.length k []
  no_edges k = record { few = zero-le; below = refl }

  no_partial : (o : Operand N) → edge o none ≡ []
  no_partial (plain x) = refl
  no_partial (node h) = refl

  pub both_ok : (b : Bool) (left right : Operand N) (p q : Option N.Number) → (b ≡ true → q ≡ none) → first_amiss M (handles (cond b (left ∷ []) (left ∷ right ∷ []))) ≡ none → Edges M.state.length most_edges (edge left p ++ edge right q)
  both_ok true left right p q alone e = rw (alone refl, no_partial right) (edge_ok left p [] [] 1 e (λ _. no_edges 1))
  both_ok false left right p q alone e =
      edge_ok left p (right ∷ []) (edge right q) 1 e (λ e'. rw append-nil at (edge_ok right q [] [] 0 e' (λ _. no_edges 0)))

-- what holds of 0, 7, 8 and 10 holds of an operation that uses the left operand alone
pub by_one_sided : (P : ℕ → Type 0) (op : ℕ) → P 0 → P 7 → P 8 → P 10 → one_sided op ≡ true → P op
by_one_sided P op p q r s = by_or _ _ (by_or _ _ (by_or _ _ (λ t. rw (eqb-true op 0 t) p) (λ t. rw (eqb-true op 7 t) q)) (λ t. rw (eqb-true op 8 t) r)) (λ t. rw (eqb-true op 10 t) s)

-- such an operation has no right partial
pub alone : {N : Numbers} (op : ℕ) (l r : N.Number) (g : Given N) → one_sided op ≡ true → (apply op l r g).right ≡ none
alone op l r g = by_one_sided (λ op. (apply op l r g).right ≡ none) op refl refl refl refl

-- ---- what a step leaves

-- Nothing but adjoints and the state, at no greater length, with the same serial next and no handle answered; or one
-- node more.
-- A call that writes adjoints or nothing is the first of these, so all that is shown from this holds for it as well
pub data Effect {N : Numbers} (M : Machine N) : Answer N × Machine N → Type 0 where
  keeps : {number : ℕ} {value : N.Number} {count left : ℕ} {t : Tape} {adjoint : List N.Number} → t.length ≤ M.state.length → t.next ≡ M.state.next
      → Effect M (answer number value none count left, machine t (arrays M.lent.value adjoint M.lent.serial M.lent.count M.lent.child M.lent.partial))
  records : (v : N.Number) (es : List (Edge N)) → Ready M → Edges M.state.length most_edges es → Effect M (recorded v (issued M.state), written M v es)

move_effect : {N : Numbers} (m : Move) (M : Machine N) → M.state.mark ≤ M.state.length → Effect M (carried (move m) M)
move_effect start M h = keeps zero-le refl
move_effect stop M h = keeps (le_refl _) refl
move_effect set_mark M h = keeps (le_refl _) refl
move_effect reset_mark M h = keeps (le_refl _) refl
move_effect rewind_to_mark M h = keeps h refl
move_effect rewind_to_init M h = keeps zero-le refl

carried_effect : {N : Numbers} (c : Call N) (M : Machine N) → Passed c M → Effect M (carried c M)
carried_effect (move m) M p = move_effect m M (state_fit most_nodes M.state (rw (mover_unlent m) at (shape p))).mark
carried_effect (operate op left right g) M p =
    let s = apply op (operand_value M left) (operand_value M right) g in
    by_test (Effect M) M.state.active (λ active. records s.value (edges left right s) (ready M (shape p) (rw active at (room p))) (both_ok M (one_sided op) left right s.left s.right (alone op (operand_value M left) (operand_value M right) g) (all_live p))) (λ _. keeps (le_refl _) refl)
carried_effect clear M p = keeps (le_refl _) refl
carried_effect (pass p) M _ = keeps (le_refl _) refl
carried_effect (open_pass p) M _ = keeps (le_refl _) refl
carried_effect (slice n) M _ = keeps (le_refl _) refl
carried_effect (value_of x) M p = keeps (le_refl _) refl
carried_effect (adjoint_of x) M p = keeps (le_refl _) refl
carried_effect (is_live x) M p = keeps (le_refl _) refl
carried_effect (list bytes) M p = keeps (le_refl _) refl

pub effect : {N : Numbers} (c : Call N) (M : Machine N) → Effect M (step c M)
effect c M = by_refusal (Effect M) c M (λ r _. keeps (le_refl _) refl) (carried_effect c M)

-- what every step keeps, every sequence of calls keeps
pub kept : {N : Numbers} (P : Machine N → Type 0) → ((M : Machine N) (x : Answer N × Machine N) → Effect M x → P M → P x.1) → (cs : List (Call N)) (M : Machine N) → P M → P (after cs M)
kept P each [] M p = p
kept P each (c ∷ cs) M p = kept P each cs (step c M).1 (each M (step c M) (effect c M) p)

-- below a length that grew by one: at the new node, or below it
pub last_or_below : (P : ℕ → Type 0) (n : ℕ) → P n → ((i : ℕ) → i < n → P i) → (i : ℕ) → i < n + 1 → P i
last_or_below P n last below i h = either (dec_lt i n) where
  either : Dec (i < n) → P i
  either (yes l) = below i l
  either (no g) = let e : n ≡ i = omega arith in subst P e last
