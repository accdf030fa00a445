-- Where a machine stands in a session: behind how many nodes, with which serials, and what each call does to that.
use Prim.Native.Nat.{ℕ, suc, ◌+◌, ◌≤◌, ◌<◌}
use native.Mathlib.Nat.{zero-add}
use native.Mathlib.Omega.{arith}
use mathlib.Core.Path.{◌≡◌, refl, sym, ◌∙◌}
use mathlib.Core.Bool.{true, true≢false}
use mathlib.Core.List.{List, ◌++◌, map}
use borrow.Author.Tests.{eqb-false}
use lib.ListN.{length, get_or, drop, replicate, length-set, length-append, length-replicate, length-drop}
use lib.Seq.{get_or-set_same, get_or-set_other, length-sets}
use Rattle.tape.specs.Numbers.{Numbers}
use Rattle.tape.specs.Machine.{Arrays, Machine, machine, capacity, slot, most_nodes}
use Rattle.tape.specs.Handles.{Operand, operand_value}
use Rattle.tape.specs.Operations.{Given, apply}
use Rattle.tape.specs.Walk.{Edge}
use Rattle.tape.specs.Answers.{Answer}
use Rattle.tape.specs.Calls.{Call, Pass, move, start, set_mark, rewind_to_mark, operate, clear, pass, edges, with_adjoints, written, plan, carried}
use Rattle.tape.specs.Steps.{step}
use Rattle.tape.specs.Slices.{Over}
use Rattle.tape.specs.declared.tape.Tape.{Tape}
use Rattle.tape.proofs.Passes.{Accepted, length_walked}
use Rattle.tape.proofs.Recording.{SoundNodes, sound_kept}
use Rattle.tape.proofs.Steps.{shape, room, effect, last_or_below}
use Rattle.tape.proofs.Tests.{by_test, Fit, fit, state_fit}

-- ---- lengths

-- the arrays B are as long as the arrays A
pub record Alike {N : Numbers} (A B : Arrays N) : Type 0 where
  pub value : length B.value ≡ length A.value
  pub adjoint : length B.adjoint ≡ length A.adjoint
  pub serial : length B.serial ≡ length A.serial
  pub count : length B.count ≡ length A.count
  pub child : length B.child ≡ length A.child
  pub partial : length B.partial ≡ length A.partial

-- a node that is written leaves the arrays as long as they were
pub written_alike : {N : Numbers} (L : Machine N) (v : N.Number) (es : List (Edge N)) → Alike L.lent (written L v es).lent
written_alike L v es =
    let n = L.state.length in
    record {
      value = length-set L.lent.value n _;
      adjoint = length-set L.lent.adjoint n _;
      serial = length-set L.lent.serial n _;
      count = length-set L.lent.count n _;
      child = length-sets L.lent.child (slot n) (map (λ e. e.child) es);
      partial = length-sets L.lent.partial (slot n) (map (λ e. e.weight) es);
    }

-- zeros put in the place of the first n
pub length_cleared : {A : Type 0} (n : ℕ) (x : A) (s : List A) → n ≤ length s → length (replicate n x ++ drop n s) ≡ length s
length_cleared n x s h = simp (length-append, length-replicate, length-drop) (omega arith)

-- ---- a machine in a session

-- On the lent arrays A: behind a model of m nodes, with serials from first on, stand j own nodes, with serials from k
-- on.
-- While the model is recorded, its nodes are own nodes behind no model
pub record Counted {N : Numbers} (A : Arrays N) (m first k j : ℕ) (L : Machine N) : Type 0 where
  pub alike : Alike A L.lent
  pub room : m + j ≤ capacity A
  pub nodes : L.state.length ≡ m + j
  pub mark : L.state.mark ≡ m
  pub next : L.state.next ≡ k + j
  pub not_nought : 0 < first
  pub in_order : first ≤ k

-- these serials are stored there, every node is sound, and no walk is open
pub record Stands {N : Numbers} (A : Arrays N) (m first k j : ℕ) (L : Machine N) : Type 0 where
  pub counted : Counted A m first k j L
  pub active : L.state.active ≡ true
  pub models : (i : ℕ) → i < m → get_or L.lent.serial i 0 ≡ first + i
  pub owns : (i : ℕ) → i < j → get_or L.lent.serial (m + i) 0 ≡ k + i
  pub sound : SoundNodes L
  pub over : Over L

-- what holds of the machine that an accepted call leaves; its nodes are still sound
onward : {N : Numbers} (P : Machine N → Type 0) (c : Call N) (L : Machine N) → Accepted c L (step c L) → SoundNodes L → (SoundNodes (carried c L).1 → P (carried c L).1) → P (step c L).1
onward P c L a is so = rw a.carries (so (rw a.carries at (sound_kept L (step c L) (effect c L) is)))

-- a start leaves no node
pub started : {N : Numbers} (M : Machine N) → Accepted (move start) M (step (move start) M) → Stands M.lent 0 M.state.next M.state.next 0 (step (move start) M).1
started M a =
    let f = state_fit most_nodes M.state (shape a.passed) in
    rw a.carries (record { counted = omega arith; active = refl; models = λ i h. absurd (omega arith); owns = λ i h. absurd (omega arith); sound = λ i h. absurd (omega arith); over = refl })

module _ {N : Numbers} {A : Arrays N} {m first k j : ℕ} {L : Machine N} (s : Stands A m first k j L) where
  -- its shape is right where that of a machine on the arrays A is
  pub stands_fit : {t : Tape} → Fit (machine t A) → Fit L
  stands_fit f =
      record {
        small = omega arith;
        adjoint = omega arith;
        serial = omega arith;
        count = omega arith;
        child = omega arith;
        partial = omega arith;
        state = record { length = omega arith; mark = omega arith; next = omega arith; walk = rw s.over };
      }

  -- with other adjoints, as many of them
  re_adjoined : (a : List N.Number) → length a ≡ length L.lent.adjoint → SoundNodes (with_adjoints L a) → Stands A m first k j (with_adjoints L a)
  re_adjoined a e is = record { counted = omega arith; active = s.active; models = s.models; owns = s.owns; sound = is; over = s.over }

  pub cleared : Accepted clear L (step clear L) → Stands A m first k j (step clear L).1
  cleared a =
      let f : Fit L = fit L (shape a.passed) in
      onward (Stands A m first k j) clear L a s.sound (re_adjoined _ (length_cleared L.state.length N.nought L.lent.adjoint (omega arith)))

  pub walked : (p : Pass N) → Accepted (pass p) L (step (pass p) L) → Stands A m first k j (step (pass p) L).1
  walked p a = onward (Stands A m first k j) (pass p) L a s.sound (re_adjoined _ (length_walked (plan p L.state) L))

  -- with one node more
  grown : (v : N.Number) (es : List (Edge N)) → m + j < length L.lent.serial → m + j < capacity A → SoundNodes (written L v es) → Stands A m first k (suc j) (written L v es)
  grown v es h room is =
      let w = written_alike L v es in
      let serials = (written L v es).lent.serial in
      let old : (i : ℕ) → i < m + j → get_or serials i 0 ≡ get_or L.lent.serial i 0 = λ i b. get_or-set_other L.lent.serial _ i _ 0 (λ e. omega arith) in
      let new : get_or serials (m + j) 0 ≡ k + j = rw (← s.counted.nodes, ← s.counted.next) (get_or-set_same L.lent.serial _ _ 0 (omega arith)) in
      record {
        counted = omega arith;
        active = s.active;
        models = λ i b. old i (omega arith) ∙ s.models i b;
        owns = λ i b. last_or_below (λ i. get_or serials (m + i) 0 ≡ k + i) j new (λ i b. old (m + i) (omega arith) ∙ s.owns i b) i (omega arith);
        sound = is;
        over = s.over;
      }

  pub recorded : (op : ℕ) (left right : Operand N) (g : Given N) → let c = operate op left right g in Accepted c L (step c L) → Stands A m first k (suc j) (step c L).1
  recorded op left right g a =
      let f : Fit L = fit L (shape a.passed) in
      let not_full : L.state.length ≡ capacity L.lent → ⊥ = eqb-false _ _ (rw s.active at (room a.passed)) in
      let row = apply op (operand_value L left) (operand_value L right) g in
      let At : Answer N × Machine N → Type 0 = λ x. SoundNodes x.1 → Stands A m first k (suc j) x.1 in
      onward (Stands A m first k (suc j)) (operate op left right g) L a s.sound
      (by_test At L.state.active (λ _. grown row.value (edges left right row) (omega arith) (omega arith)) (λ e. absurd (true≢false (sym s.active ∙ e))))

  -- the own nodes are gone, and the next ones get the serials after theirs
  pub rewound : Accepted (move rewind_to_mark) L (step (move rewind_to_mark) L) → Stands A m first (k + j) 0 (step (move rewind_to_mark) L).1
  rewound a =
      onward (Stands A m first (k + j) 0) (move rewind_to_mark) L a s.sound
      (λ is. record { counted = omega arith; active = s.active; models = s.models; owns = λ i h. absurd (omega arith); sound = is; over = s.over })

-- the model's own nodes, with the mark set behind them, are the model
pub marked : {N : Numbers} {A : Arrays N} {k j : ℕ} {L : Machine N} → Stands A 0 k k j L → Accepted (move set_mark) L (step (move set_mark) L) → Stands A j k (k + j) 0 (step (move set_mark) L).1
marked {A = A} {k} {j} {L} s a =
    onward (Stands A j k (k + j) 0) (move set_mark) L a s.sound
    (λ is. record { counted = omega arith; active = s.active; models = λ i h. rw zero-add at (s.owns i h); owns = λ i h. absurd (omega arith); sound = is; over = s.over })
