-- What one node more writes and what it leaves: by cases on what a step leaves.
use Prim.Native.Nat.{ℕ, zero, suc, ◌+◌, ◌-◌, ◌≤◌, ◌<◌}
use native.Mathlib.Nat.{le_refl}
use native.Mathlib.Omega.{arith}
use mathlib.Core.Path.{◌≡◌, refl, ap, subst, ◌∙◌}
use mathlib.Core.Bool.{true, and-eq-true_iff}
use mathlib.Core.List.{List, [], ◌∷◌, map}
use mathlib.Core.Option.{some, some-injective}
use borrow.Author.Tests.{leb-true, le-leb}
use lib.Dec.{leb, ltb}
use lib.ListN.{length, get_or, take, drop, set, length-set}
use lib.Seq.{get_or-set_same, get_or-set_other, take-set-le, drop-set-add, sets}
use Rattle.tape.specs.Numbers.{Numbers}
use Rattle.tape.specs.Machine.{Arrays, Machine, slot, all, most_edges}
use Rattle.tape.specs.Handles.{Operand, node, live, operand_value}
use Rattle.tape.specs.Operations.{Given, apply}
use Rattle.tape.specs.Walk.{Edge, edges_from, edges_at, sound}
use Rattle.tape.specs.Answers.{Answer}
use Rattle.tape.specs.Calls.{move, operate, edges, issued, written}
use Rattle.tape.specs.Steps.{step}
use Rattle.tape.specs.Kept.{Recording, SameBelow, fresh}
use Rattle.tape.specs.declared.node.Handle.{Handle}
use Rattle.tape.proofs.Tests.{by_test}
use Rattle.tape.proofs.Steps.{by_refusal, lives_so, Effect, keeps, records, effect, kept, last_or_below}

-- ---- a run of stores

module _ {A : Type 0} where
  -- it leaves what stands before it
  part_sets : (k j : ℕ) (l : List A) (i : ℕ) (vs : List A) → j + k ≤ i → take k (drop j (sets l i vs)) ≡ take k (drop j l)
  part_sets k j l i [] h = refl
  part_sets k j l i (v ∷ vs) h =
      let e : j + (i - j) ≡ i = omega arith in
      let one : take k (drop j (set l i v)) ≡ take k (drop j l) = subst (λ m. take k (drop j (set l m v)) ≡ take k (drop j l)) e (ap (take k) (drop-set-add j l (i - j) v) ∙ take-set-le k (drop j l) (i - j) v (omega arith)) in
      part_sets k j (set l i v) (suc i) vs (omega arith) ∙ one

  getD_before : (l : List A) (i : ℕ) (vs : List A) (j : ℕ) (d : A) → j < i → get_or (sets l i vs) j d ≡ get_or l j d
  getD_before l i [] j d h = refl
  getD_before l i (v ∷ vs) j d h = getD_before (set l i v) (suc i) vs j d (omega arith) ∙ get_or-set_other l i j v d (λ e. omega arith)

  getD_first : (l : List A) (i : ℕ) (v : A) (vs : List A) (d : A) → i < length l → get_or (sets (set l i v) (suc i) vs) i d ≡ v
  getD_first l i v vs d h = getD_before (set l i v) (suc i) vs i d (omega arith) ∙ get_or-set_same l i v d h

-- ---- a node's edges, read off the arrays

module _ {N : Numbers} where
  -- those that were stored there
  pub edges_stored : (cs : List ℕ) (ps : List N.Number) (s : ℕ) (es : List (Edge N)) → s + length es ≤ length cs → s + length es ≤ length ps
      → edges_from (sets cs s (map (λ e. e.child) es)) (sets ps s (map (λ e. e.weight) es)) s (length es) ≡ es
  edges_stored cs ps s [] h k = refl
  edges_stored cs ps s (e ∷ es) h k =
      let child = getD_first cs s e.child (map (λ e. e.child) es) 0 (omega arith) in
      let weight = getD_first ps s e.weight (map (λ e. e.weight) es) N.blank (omega arith) in
      let rest = edges_stored (set cs s e.child) (set ps s e.weight) (suc s) es (omega (arith, length-set cs s e.child)) (omega (arith, length-set ps s e.weight)) in
      rw (child, weight, rest)

  -- those before them
  pub edges_before : (cs : List ℕ) (ps : List N.Number) (s : ℕ) (vs : List ℕ) (ws : List N.Number) (i k : ℕ) → i + k ≤ s → edges_from {N = N} (sets cs s vs) (sets ps s ws) i k ≡ edges_from cs ps i k
  edges_before cs ps s vs ws i zero h = refl
  edges_before cs ps s vs ws i (suc k) h = rw (getD_before cs s vs i 0 (omega arith), getD_before ps s ws i N.blank (omega arith), edges_before cs ps s vs ws (suc i) k (omega arith))

-- ---- the node that is answered

answered : {N : Numbers} {M : Machine N} {x : Answer N × Machine N} (h : Handle) → Effect M x → x.0.handle ≡ some h → (live x.1 h ≡ true) × (operand_value x.1 (node h) ≡ x.0.value)
answered h (keeps l _) e = let f : ◌≡◌ {A = ℕ} 0 1 = cc in absurd (omega arith)
answered {N} {M} h (records v es r s) e =
    subst
    (λ h. (live (written M v es) h ≡ true) × (operand_value (written M v es) (node h) ≡ v))
    (some-injective _ _ e)
    (lives_so _ (written M v es).lent.serial (issued M.state) (record { below = omega arith; serial = r.fit.state.next; same = get_or-set_same M.lent.serial _ _ 0 (omega arith) }), get_or-set_same M.lent.value _ _ _ r.room)

-- ---- sound nodes

sound_by : {N : Numbers} (A : Arrays N) (i k : ℕ) (es : List (Edge N)) → get_or A.count i 0 ≡ k → k ≤ most_edges → edges_from A.child A.partial (slot i) k ≡ es → all (map (λ e. ltb e.child i) es) ≡ true → sound A i ≡ true
sound_by A i k es count few same below = rw (count, same, le-leb k most_edges few) below

abbrev pub SoundNodes : {N : Numbers} → Machine N → Type 0
SoundNodes M = (i : ℕ) → i < M.state.length → sound M.lent i ≡ true

pub sound_kept : {N : Numbers} (M : Machine N) (x : Answer N × Machine N) → Effect M x → SoundNodes M → SoundNodes x.1
sound_kept M _ (keeps l _) is = λ i h. is i (omega arith)
sound_kept M _ (records v es r s) is =
    let n = M.state.length in
    let A = M.lent in
    let B = (written M v es).lent in
    last_or_below
    (λ i. sound B i ≡ true)
    n
    (sound_by B n (length es) es (get_or-set_same A.count n _ 0 (omega arith)) s.few (edges_stored A.child A.partial (slot n) es (omega arith) (omega arith)) s.below)
    (λ i h.
    let k = get_or A.count i 0 in
    let both = (and-eq-true_iff (leb k most_edges) (all (map (λ e. ltb e.child i) (edges_at A i)))).0 (is i h) in
    let few : k ≤ most_edges = leb-true _ _ both.0 in
    sound_by B i k _ (get_or-set_other A.count n i _ 0 (λ e. omega arith)) few (edges_before A.child A.partial (slot n) (map (λ e. e.child) es) (map (λ e. e.weight) es) (slot i) k (omega arith)) both.1)

-- ---- what is below

same : {N : Numbers} (n : ℕ) (A : Arrays N) → SameBelow n A A
same n A = record { value = refl; adjoint = refl; serial = refl; count = refl; child = refl; partial = refl }

below_written : {N : Numbers} (M : Machine N) (v : N.Number) (es : List (Edge N)) → SameBelow M.state.length M.lent (written M v es).lent
below_written M v es =
    let n = M.state.length in
    let A = M.lent in
    record {
      value = take-set-le n A.value n _ (le_refl n);
      adjoint = take-set-le n A.adjoint n _ (le_refl n);
      serial = take-set-le n A.serial n _ (le_refl n);
      count = take-set-le n A.count n _ (le_refl n);
      child = part_sets (slot n) 0 A.child (slot n) (map (λ e. e.child) es) (omega arith);
      partial = part_sets (slot n) 0 A.partial (slot n) (map (λ e. e.weight) es) (omega arith);
    }

below : {N : Numbers} (op : ℕ) (left right : Operand N) (g : Given N) (M : Machine N) → SameBelow M.state.length M.lent (step (operate op left right g) M).1.lent
below {N} op left right g M =
    let es = edges left right (apply op (operand_value M left) (operand_value M right) g) in
    let Same : Answer N × Machine N → Type 0 = λ x. SameBelow M.state.length M.lent x.1.lent in
    by_refusal Same (operate op left right g) M (λ r _. same _ _) (λ p. by_test Same M.state.active (λ _. below_written M _ es) (λ _. same _ _))

pub recording : Recording
recording = record {
  answered = λ c M h. answered h (effect c M);
  sound_nodes = λ A cs. kept SoundNodes sound_kept cs (fresh A) (λ i h. absurd (omega arith));
  below = below;
  moves = λ m M. by_refusal (λ x. x.1.lent ≡ M.lent) (move m) M (λ r _. refl) (λ p. refl);
}
