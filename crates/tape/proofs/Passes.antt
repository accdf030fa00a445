-- A call that is not refused does what `carried` says, a range that is cut in two is walked in two, and what a pass
-- walks ends at or below the length.
use Prim.Native.Nat.{ℕ, zero, suc, ◌+◌, ◌-◌, ◌≤◌, ◌<◌, zero-le}
use native.Mathlib.Nat.{zero-add, add-zero, add-suc, suc-add, sub_self, add-sub_of_le}
use native.Mathlib.Omega.{arith}
use mathlib.Core.Path.{◌≡◌, refl, sym, ap, subst, ◌∙◌}
use mathlib.Core.Bool.{true, true≢false, and-eq-true_iff}
use mathlib.Core.List.{List, [], ◌∷◌, ◌++◌, map, map-append}
use mathlib.Core.Option.{some, none}
use borrow.Author.Tests.{ltb-true}
use lib.Dec.{ltb}
use lib.ListN.{length, get_or, set, length-map, length-set}
use lib.Seq.{get_or-set_other}
use Rattle.tape.specs.Numbers.{Numbers}
use Rattle.tape.specs.Machine.{Arrays, Machine, machine, slot, all, most_nodes}
use Rattle.tape.specs.Handles.{Operand, plain, node, handles}
use Rattle.tape.specs.Walk.{Edge, push, walk, edges_from, edges_at, indexes, sum, visited, sound}
use Rattle.tape.specs.Answers.{Answer, number, done, counted}
use Rattle.tape.specs.Calls.{reset_mark, Pass, backward, backward_to_mark, backward_mark_to_start, propagate_to_mark, propagate_mark_to_start, Call, move, operate, clear, pass, open_pass, slice, value_of, adjoint_of, is_live, list, moved, with_adjoints, Plan, plan, range, seeded, walked, left_of, slice_plan, carried}
use Rattle.tape.specs.Admission.{walk_fits, let_in}
use Rattle.tape.specs.Refusals.{refusal_of, asked, first_amiss}
use Rattle.tape.specs.Steps.{step, run}
use Rattle.tape.specs.Kept.{fresh, after}
use Rattle.tape.specs.Passes.{EachEdge, push_edge_by_edge, OnlyAdjoints, EmptyRange, BothRanges, NeverUnsound, Unrefused, counts, in_one, in_two}
use Rattle.tape.specs.declared.errors.Refusal.{Refusal}
use Rattle.tape.specs.declared.admission.Caller.TheVariants as caller
use Rattle.tape.specs.Machine.{Walk}
use Rattle.std.specs.Prelude.{None, Some}
use Rattle.tape.proofs.OneToOne.{never_nought}
use Rattle.tape.proofs.Ranges.{length_indexes, indexes_cut, sum_append, all_append, all_below}
use Rattle.tape.proofs.Recording.{SoundNodes, recording}
use Rattle.tape.proofs.Steps.{by_table, granted_shape, Passed, shape, closed, sound_range, by_refusal, first_live}
use Rattle.tape.proofs.Tests.{by_test, walk_fit, Fit, fit, state_fit_so, refits}

-- ---- a pass leaves the number of adjoints

module _ {N : Numbers} where
  length_push : (a : N.Number) (es : List (Edge N)) (s : List N.Number) → length (push a es s) ≡ length s
  length_push a [] s = refl
  length_push a (e ∷ es) s = length_push a es _ ∙ length-set s e.child _

  pub length_walk : (i : ℕ) (ns : List (List (Edge N))) (s : List N.Number) → length (walk i ns s) ≡ length s
  length_walk i [] s = refl
  length_walk i (es ∷ above) s = length_push _ es (walk (suc i) above s) ∙ length_walk (suc i) above s

  pub length_seeded : (os : List (Operand N)) (s : List N.Number) → length (seeded os s) ≡ length s
  length_seeded [] s = refl
  length_seeded (plain x ∷ os) s = length_seeded os s
  length_seeded (node h ∷ os) s = length_seeded os _ ∙ length-set s _ _

  pub length_walked : (P : Plan N) (L : Machine N) → length (walked P L).lent.adjoint ≡ length L.lent.adjoint
  length_walked P L = length_walk P.from (map (edges_at L.lent) (range P)) (seeded P.root L.lent.adjoint) ∙ length_seeded P.root L.lent.adjoint

-- ---- each edge

read_once : {N : Numbers} (i : ℕ) (es : List (Edge N)) (s : List N.Number) → all (map (λ e. ltb e.child i) es) ≡ true → push_edge_by_edge i es s ≡ push (get_or s i N.blank) es s
read_once i [] s below = refl
read_once {N} i (e ∷ es) s below =
    let both = (and-eq-true_iff (ltb e.child i) (all (map (λ e. ltb e.child i) es))).0 below in
    let c : e.child < i = ltb-true _ _ both.0 in
    let v = N.plus (get_or s e.child N.blank) (N.times e.weight (get_or s i N.blank)) in
    read_once i es (set s e.child v) both.1 ∙ ap (λ a. push a es (set s e.child v)) (get_or-set_other s e.child i v N.blank (λ q. omega arith))

length_edges : (N : Numbers) (cs : List ℕ) (ps : List N.Number) (s k : ℕ) → length (edges_from {N = N} cs ps s k) ≡ k
length_edges N cs ps s zero = refl
length_edges N cs ps s (suc k) = ap suc (length_edges N cs ps (suc s) k)

counted_once : {N : Numbers} (A : Arrays N) (range : List ℕ) → visited A range ≡ sum (map (λ i. length (edges_at A i)) range)
counted_once A [] = refl
counted_once {N} A (i ∷ range) = rw (length_edges N A.child A.partial (slot i) (get_or A.count i 0), counted_once A range)

pub each_edge : EachEdge
each_edge = record { read_once = read_once; counted_once = counted_once }

-- ---- what is left alone

pub only_adjoints : OnlyAdjoints
only_adjoints = record {
  passes = λ p M. by_refusal (λ x. x.1 ≡ with_adjoints M x.1.lent.adjoint) (pass p) M (λ _ _. refl) (λ _. refl);
  clearing = λ M. by_refusal (λ x. x.1 ≡ with_adjoints M x.1.lent.adjoint) clear M (λ _ _. refl) (λ _. refl);
  values = λ x M. by_refusal (λ y. y.1 ≡ M) (value_of x) M (λ _ _. refl) (λ _. refl);
  adjoints = λ x M. by_refusal (λ y. y.1 ≡ M) (adjoint_of x) M (λ _ _. refl) (λ _. refl);
  liveness = λ x M. by_refusal (λ y. y.1 ≡ M) (is_live x) M (λ _ _. refl) (λ _. refl);
  listings = λ bytes M. by_refusal (λ y. y.1 ≡ M) (list bytes) M (λ _ _. refl) (λ _. refl);
}

-- ---- empty ranges

pub empty_range : EmptyRange
unfolding step
empty_range = record { to_start = λ M shape closed e. rw (shape, closed, e); to_mark = λ M shape closed e. rw (shape, closed, e, sub_self) }

-- ---- both ranges

pub walk_append : {N : Numbers} (i : ℕ) (low high : List (List (Edge N))) (adjoints : List N.Number) → walk i (low ++ high) adjoints ≡ walk i low (walk (i + length low) high adjoints)
walk_append i [] high adjoints = rw add-zero
walk_append i (es ∷ low) high adjoints = rw (walk_append (suc i) low high adjoints, suc-add, add-suc)

-- the range from i to n, cut at m
module _ {N : Numbers} (A : Arrays N) (i m n : ℕ) (l : i ≤ m) (h : m ≤ n) where
  pub walk_cut : (adjoints : List N.Number) → walk i (map (edges_at A) (indexes i (n - i))) adjoints ≡ walk i (map (edges_at A) (indexes i (m - i))) (walk m (map (edges_at A) (indexes m (n - m))) adjoints)
  walk_cut adjoints = rw (indexes_cut i m n l h, map-append, walk_append, length-map, length_indexes, add-sub_of_le l)

  pub visited_cut : visited A (indexes i (n - i)) ≡ sum (visited A (indexes m (n - m)) ∷ visited A (indexes i (m - i)) ∷ [])
  visited_cut = rw (indexes_cut i m n l h, map-append, sum_append) (omega arith)

  pub sound_cut : all (map (sound A) (indexes m (n - m))) ≡ true → all (map (sound A) (indexes i (m - i))) ≡ true → all (map (sound A) (indexes i (n - i))) ≡ true
  sound_cut high low = rw (indexes_cut i m n l h, map-append, all_append, low) high

-- x is what a call that is not refused does
pub record Accepted {N : Numbers} (c : Call N) (M : Machine N) (x : Answer N × Machine N) : Type 0 where
  pub passed : Passed c M
  pub carries : x ≡ carried c M

pub accepted : {N : Numbers} (c : Call N) (M : Machine N) → (step c M).0.number ≡ 0 → Accepted c M (step c M)
accepted c M =
    by_refusal
    (λ x. x.0.number ≡ 0 → Accepted c M x)
    c
    M
    (λ r _ e. absurd (never_nought r e))
    (λ p _. record { passed = p; carries = refl })

two_calls : {N : Numbers} (c d : Call N) (M : Machine N) {x y : Answer N × Machine N} → step c M ≡ x → step d x.1 ≡ y → run (c ∷ d ∷ []) M ≡ (x.0 ∷ y.0 ∷ [], y.1)
two_calls c d M {x} e f = ap (λ s. (s.0 ∷ (step d s.1).0 ∷ [], (step d s.1).1)) e ∙ ap (λ s. (x.0 ∷ s.0 ∷ [], s.1)) f

abbrev reset : {N : Numbers} → Machine N → Machine N
reset M = machine (moved reset_mark M.state) M.lent

module _ {N : Numbers} (M : Machine N) (f : Fit M) (closed : M.state.walk ≡ None) where
  resets : step (move reset_mark) M ≡ (done, reset M)
  unfolding step
  resets = rw (state_fit_so most_nodes M.state (record { length = omega arith; mark = omega arith; next = f.state.next; walk = f.state.walk }), closed)

  walks_whole : all (map (sound M.lent) (indexes 0 (M.state.length - 0))) ≡ true → step (pass propagate_to_mark) (reset M) ≡ carried (pass propagate_to_mark) (reset M)
  unfolding step
  walks_whole every = rw (refits M (reset M).state f (record { length = omega arith; mark = zero-le; next = f.state.next; walk = f.state.walk }), closed, every)

-- the answers of two passes as those of one, and the mark reset
abbrev joined : {N : Numbers} → List (Answer N) × Machine N → List (Answer N) × Machine N
joined (answers, M) = (done ∷ counted (counts answers) ∷ [], reset M)

one_walk : {N : Numbers} (M : Machine N) → Unrefused (run (in_two N) M).0 → run (in_one N) M ≡ joined (run (in_two N) M)
one_walk M (u, (v, _)) =
    let high = accepted (pass propagate_to_mark) M u in
    let low = accepted (pass propagate_mark_to_start) (carried (pass propagate_to_mark) M).1 (rw high.carries at v) in
    let f : Fit M = fit M (shape high.passed) in
    let mark = M.state.mark in
    let end = M.state.length in
    let every = sound_cut M.lent 0 mark end zero-le f.state.mark (sound_range high.passed) (sound_range low.passed) in
    let visits = visited_cut M.lent 0 mark end zero-le f.state.mark in
    let walks = walk_cut M.lent 0 mark end zero-le f.state.mark M.lent.adjoint in
    let none_open = closed high.passed refl in
    two_calls (move reset_mark) (pass propagate_to_mark) M (resets M f none_open) (walks_whole M f none_open every)
    ∙ (λ i. (done ∷ counted (visits i) ∷ [], with_adjoints (reset M) (walks i)))
    ∙ sym (ap joined (two_calls (pass propagate_to_mark) (pass propagate_mark_to_start) M high.carries low.carries))

pub both_ranges : BothRanges
both_ranges = record {
  of_nodes = walk_append;
  unrefused = λ M u. subst (λ x. Unrefused x.0) (sym (one_walk M u)) (refl, (refl, tt));
  arrays = λ M u. ap (λ x. x.1.lent) (one_walk M u);
  visits = λ M u. ap (λ x. counts x.0) (one_walk M u) ∙ simp (zero-add, add-zero);
}

-- ---- sound tapes

-- what a pass walks ends at or below the length
pub ends : {N : Numbers} (p : Pass N) (M : Machine N) → Fit M → first_amiss M (handles (plan p M.state).root) ≡ none → (plan p M.state).end ≤ M.state.length
ends (backward (plain x)) M f all_live = omega arith
ends (backward (node h)) M f all_live = let l = (first_live M h [] all_live).0 in omega arith
ends (backward_to_mark x) M f all_live = omega arith
ends (backward_mark_to_start x) M f all_live = omega arith
ends propagate_to_mark M f all_live = omega arith
ends propagate_mark_to_start M f all_live = omega arith

-- and so do the nodes that are left of a walk, of which there is one or more if it is open
pub left_ends : (w : Walk) (length : ℕ) → walk_fits length w ≡ true → (left_of w).end ≤ length
left_ends None length e = zero-le
left_ends (Some s) length e = (walk_fit length s e).1

pub left_in_order : (w : Walk) (length : ℕ) → walk_fits length w ≡ true → (left_of w).from ≤ (left_of w).end
left_in_order None length e = zero-le
left_in_order (Some s) length e = omega (arith, walk_fit length s e)

module _ {N : Numbers} (M : Machine N) (nodes : SoundNodes M) where
  pass_sound : (p : Pass N) → let_in caller.Passing M ≡ none → first_amiss M (handles (plan p M.state).root) ≡ none → all (map (sound M.lent) (range (plan p M.state))) ≡ true
  pass_sound p in_so all_live =
      let P = plan p M.state in
      let end : P.end ≤ M.state.length = ends p M (fit M (granted_shape caller.Passing M in_so)) all_live in
      all_below (sound M.lent) P.from (P.end - P.from) (λ j l h. nodes j (omega arith))

  pub range_sound : (c : Call N) → let_in (asked c M.state).caller M ≡ none → first_amiss M (handles (asked c M.state).operands) ≡ none → all (map (sound M.lent) (asked c M.state).range) ≡ true
  range_sound (pass p) in_so all_live = pass_sound p in_so all_live
  range_sound (open_pass p) in_so all_live = pass_sound p in_so all_live
  range_sound (slice n) in_so all_live =
      let P : Plan N = slice_plan n (left_of M.state.walk) in
      let end : P.end ≤ M.state.length = left_ends M.state.walk M.state.length (fit M (granted_shape (caller.Slice n) M in_so)).state.walk in
      all_below (sound M.lent) P.from (P.end - P.from) (λ j l h. nodes j (omega arith))
  range_sound (move m) _ _ = refl
  range_sound (operate op left right g) _ _ = refl
  range_sound clear _ _ = refl
  range_sound (value_of x) _ _ = refl
  range_sound (adjoint_of x) _ _ = refl
  range_sound (is_live x) _ _ = refl
  range_sound (list bytes) _ _ = refl

  -- no other row gives refusal 7
  not_unsound : (c : Call N) (r : Refusal) → refusal_of c M ≡ some r → number r ≡ 7 → ⊥
  not_unsound c = by_table (λ r. number r ≡ 7 → ⊥) c M (record {
    misshapen = λ e. omega arith;
    out_of_turn = λ _ e. omega arith;
    unfit = λ e. omega arith;
    unknown = λ e. omega arith;
    stale = λ _ _ _ _ e. omega arith;
    never_issued = λ _ _ _ _ e. omega arith;
    detached = λ e. omega arith;
    full = λ e. omega arith;
    spent = λ e. omega arith;
    unsound = λ in_so all_live e _. true≢false (sym (range_sound c in_so all_live) ∙ e);
    too_long = λ e. omega arith;
  })

pub carried_number : {N : Numbers} (c : Call N) (M : Machine N) → (carried c M).0.number ≡ 0
carried_number {N} (operate op left right g) M = by_test (λ (x : Answer N × Machine N). x.0.number ≡ 0) M.state.active (λ _. refl) (λ _. refl)
carried_number (move m) M = refl
carried_number clear M = refl
carried_number (pass p) M = refl
carried_number (open_pass p) M = refl
carried_number (slice n) M = refl
carried_number (value_of x) M = refl
carried_number (adjoint_of x) M = refl
carried_number (is_live x) M = refl
carried_number (list bytes) M = refl

-- a call that no row refuses does what `carried` says
pub passes : {N : Numbers} (c : Call N) (L : Machine N) → refusal_of c L ≡ none → Accepted c L (step c L)
unfolding step
passes c L e = record { passed = record { none_refuses = e }; carries = rw e }

-- and answers with number 0
pub answers : {N : Numbers} {c : Call N} {L : Machine N} → Accepted c L (step c L) → (step c L).0.number ≡ 0
answers {c = c} {L} a = rw a.carries (carried_number c L)

pub never_unsound : NeverUnsound
never_unsound = record {
  never_refused_7 = λ A before c.
      let M = after before (fresh A) in
      by_refusal
      (λ x. x.0.number ≡ 7 → ⊥)
      c
      M
      (not_unsound M (recording.sound_nodes A before) c)
      (λ _ e. omega (arith, carried_number c M));
}
